-- Which faults the work behind an opening may meet.
use Rattle.std.specs.Prelude.{◌≡◌, ◌⊎◌, ◌<◌, ℕ, Result, Err}
use Rattle.interleavings.specs.declared.served.ServeFault.{ServeFault}
use Rattle.interleavings.specs.declared.served.ServeFault.TheVariants.{NoMemory, Open, Thread}

-- what may come behind the opening, where so many workers are to be started
abbrev pub IsAfterOpening : ℕ → ServeFault → Type 0
IsAfterOpening workers NoMemory = Unit {0}
IsAfterOpening workers (Open fault) = ⊥
IsAfterOpening workers Thread = 0 < workers

-- the fault is that of the work, or memory ran out behind it
abbrev pub IsOfWork : Result (Unit {0}) ServeFault → ServeFault → Type 0
IsOfWork worked fault = (worked ≡ Err fault) ⊎ (fault ≡ NoMemory)
