-- What a value under the lock has kept since the opening.
use Rattle.std.specs.Prelude.{◌≡◌, Bool, IsFalse, Option, IfSome}
use Rattle.durable_top.specs.declared.store.TopStore.{Ghosts}
use Rattle.interleavings.specs.Turning.{Turning}
use Rattle.interleavings.specs.Scheduled.{Goes}

-- the sessions went on from where they were at the opening, if that is known
abbrev pub HasGoneOn : {S : Type 0} → Ghosts S → Option (Turning S) → Turning S → Type 0
HasGoneOn g opened t = IfSome opened (λ first. Goes g first t)

-- they are where they were at the opening, if that is known
abbrev pub IsAsOpened : {S : Type 0} → Option (Turning S) → Turning S → Type 0
IsAsOpened opened t = IfSome opened (λ first. t ≡ first)

-- and as long as no line was tried, they are there still
pub record IsKept {S : Type 0} (g : Ghosts S) (opened : Option (Turning S)) (t : Turning S)
    (tried : Bool) : Type 0 where
  pub gone_on : HasGoneOn g opened t
  pub untried : IsFalse tried → IsAsOpened opened t
