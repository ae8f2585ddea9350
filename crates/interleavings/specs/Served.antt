-- What it comes to that workers serve sessions.
use Rattle.std.specs.Prelude.{◌≡◌, ◌+◌, List, map}
use Rattle.serial_spec.specs.Interleaving.{Session, IsInterleaving, IsFinished}
use Rattle.serial_spec.specs.Rows.{value_in}
use Rattle.durable_top.specs.declared.store.TopStore.{Ghosts}
use Rattle.durable_top.specs.Store.{counted}
use Rattle.manager_core.specs.Sound.{IsTrusted, store_refusals}
use Rattle.manager_core.specs.Opening.{HasCause, HasGivenFew}
use Rattle.manager_core.specs.StoredNumbers.{IsNumberedAfter}
use Rattle.run_reports.specs.Told.{Told}
use Rattle.interleavings.specs.Turning.{Turning, IsClosed}
use Rattle.interleavings.specs.Scheduled.{BreaksOff, Goes}
use Rattle.interleavings.specs.Runs.{IsBrokenOff, WasAsked}
use Rattle.interleavings.specs.declared.served.ServeFault.{ServeFault}
use Rattle.interleavings.specs.declared.served.ServeFault.TheVariants.{NoMemory, Open, Thread}

-- The report of these sessions over the store as it was given, and the store that comes back with
-- it. What every report says is in `IsReport`; which of the legal histories it has is not said
pub record IsServed {S : Type 0} (g : Ghosts S) (ss : List Session) (store : S) (r : Told)
    (left : S) : Type 0 where
  -- the opening rows are what the store answered, and so its table; it was asked for each commit
  -- before that was replied
  pub asked : WasAsked g store r.opening r.history left
  pub opening : g.doubt left ≡ 0 → value_in r.opening ≡ g.table store
  pub labels : r.labels ≡ map (λ s. s.label) ss
  -- the history takes the sessions' lines in turn, and all of them
  pub interleaving : IsInterleaving r.opening ss r.history
  pub finished : IsFinished ss r.history
  -- the store has the final table until its device fails, and counted the commits that it refused
  pub stored : IsTrusted g left → g.table left ≡ value_in r.table
  -- with the numbers that the history gives, from those that the store had
  pub numbered : IsTrusted g left → IsNumberedAfter (g.numbered store) r.history (g.numbered left)
  pub refusals : g.faults left ≡ counted (g.faults store + store_refusals r.history)

-- these sessions went on to their close
pub record IsServedFrom {S : Type 0} (g : Ghosts S) (first : Turning S) (r : Told)
    (left : S) : Type 0 where
  pub last : Turning S
  pub goes : Goes g first last
  pub closed : IsClosed g last r left

-- These sessions went on until the fault, and the store comes back as they left it. Where a worker
-- was missing no line was attempted: the store is as it was left by the opening
pub record IsUnservedFrom {S : Type 0} (g : Ghosts S) (first : Turning S) (fault : ServeFault)
    (left : S) : Type 0 where
  pub off : BreaksOff g first left
  pub untried : fault ≡ Thread → left ≡ first.core.store

-- Why there is no report. Memory runs out only behind the opening, and so does the start of a
-- worker fail
abbrev pub HasServeCause : {S : Type 0} → Ghosts S → List Session → S → ServeFault → Type 0
HasServeCause g ss store NoMemory = IsBrokenOff g ss store
HasServeCause g ss store (Open fault) = HasCause g store fault
HasServeCause g ss store Thread = HasGivenFew g store
