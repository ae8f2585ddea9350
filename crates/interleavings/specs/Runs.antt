-- What a run of sessions comes to.
use Rattle.std.specs.Prelude.{◌≡◌, ◌+◌, ◌<◌, ◌≤◌, ℕ, suc, List, [], length, map, slice_get, Option, Some, None, Ok}
use Rattle.serial_spec.specs.Interleaving.{Session, IsInterleaving, IsFinished}
use Rattle.serial_spec.specs.Follows.{Follows}
use Rattle.serial_spec.specs.History.{History}
use Rattle.serial_spec.specs.Rows.{Rows, value_in}
use Rattle.serial_spec.specs.Serial.{stored}
use Rattle.durable_top.specs.declared.store.Row.{Row}
use Rattle.durable_top.specs.declared.store.TopStore.{Ghosts}
use Rattle.durable_top.specs.Store.{counted, plain}
use Rattle.manager_core.specs.Sound.{IsTrusted, store_refusals}
use Rattle.manager_core.specs.Opening.{HasCause, most_rows}
use Rattle.manager_core.specs.StoredNumbers.{IsNumberedAfter}
use Rattle.txn_history.specs.Turns.{IsUnderWay}
use Rattle.interleavings.specs.Trails.{Trail}
use Rattle.run_reports.specs.Told.{Told}
use Rattle.interleavings.specs.declared.run.RunFault.{RunFault}
use Rattle.interleavings.specs.declared.run.RunFault.TheVariants.{NoMemory, Open, Schedule}

-- each of the first so many items is the number of one of so many sessions
abbrev pub AreThere : ℕ → List ℕ → ℕ → Type 0
AreThere count schedule n = (i s : ℕ) → i < n → slice_get schedule i ≡ Some s → s < count

-- each item of the schedule is a session's number
abbrev pub AllThere : ℕ → List ℕ → Type 0
AllThere count schedule = AreThere count schedule (length schedule)

-- the item at this place, counted from 1, is the first that is no session's number
pub record IsStray (count : ℕ) (schedule : List ℕ) (n : ℕ) : Type 0 where
  pub before : ℕ
  pub counted : n ≡ suc before
  pub item : ℕ
  pub stands : slice_get schedule before ≡ Some item
  pub strays : count ≤ item
  pub first : AreThere count schedule before

abbrev pub TellsStray : ℕ → List ℕ → Option ℕ → Type 0
TellsStray count schedule None = AllThere count schedule
TellsStray count schedule (Some n) = IsStray count schedule n

-- The store was asked for its rows as it was given, and answered these; then it was asked what the
-- entries of the history ask, in their order, and nothing else; so it was left
pub record WasAsked {S : Type 0} (g : Ghosts S) (store : S) (rows : Rows) (h : History)
    (left : S) : Type 0 where
  pub first : S
  pub given : List Row
  pub loaded : g.loads store first (Ok given)
  pub are : rows ≡ plain given
  pub trail : Trail g rows [] first h left

-- The report of these sessions, run by this schedule over the store as it was given, and the store
-- that comes back with it. What every report says is in `IsReport`
pub record IsRun {S : Type 0} (g : Ghosts S) (ss : List Session) (schedule : List ℕ) (store : S)
    (r : Told) (left : S) : Type 0 where
  pub there : AllThere (length ss) schedule
  -- the opening rows are what the store answered, and so its table; it was asked for each commit
  -- before that was replied
  pub asked : WasAsked g store r.opening r.history left
  pub opening : g.doubt left ≡ 0 → value_in r.opening ≡ g.table store
  pub labels : r.labels ≡ map (λ s. s.label) ss
  -- the history follows the schedule, takes the sessions' lines in turn, and all of them
  pub follows : Follows r.opening ss schedule r.history
  pub interleaving : IsInterleaving r.opening ss r.history
  pub finished : IsFinished ss r.history
  -- the store has the final table until its device fails, and counted the commits that it refused
  pub stored : IsTrusted g left → g.table left ≡ value_in r.table
  -- with the numbers that the history gives, from those that the store had
  pub numbered : IsTrusted g left → IsNumberedAfter (g.numbered store) r.history (g.numbered left)
  pub refusals : g.faults left ≡ counted (g.faults store + store_refusals r.history)

-- The run was broken off behind a legal history of these sessions, as far as their lines were
-- attempted, over rows that the store gave; and until its device fails the store had the table that
-- this history leaves
pub record IsBrokenOff {S : Type 0} (g : Ghosts S) (ss : List Session) (store : S) : Type 0 where
  pub opening : Rows
  pub history : History
  pub left : S
  pub asked : WasAsked g store opening history left
  pub few : length opening ≤ most_rows
  pub way : IsUnderWay opening ss history
  pub table : Rows
  pub stored : (k : List ℕ) → value_in table k ≡ stored (value_in opening) history k
  pub has : IsTrusted g left → g.table left ≡ value_in table
  pub numbered : IsTrusted g left → IsNumberedAfter (g.numbered store) history (g.numbered left)
  pub refusals : g.faults left ≡ counted (g.faults store + store_refusals history)

-- Why a run gave no report. A schedule that names no session is told before anything else can fail,
-- and memory runs out only behind the opening
abbrev pub HasRunCause : {S : Type 0} → Ghosts S → List Session → List ℕ → S → RunFault → Type 0
HasRunCause g ss schedule store NoMemory = AllThere (length ss) schedule × IsBrokenOff g ss store
HasRunCause g ss schedule store (Open fault) = AllThere (length ss) schedule
    × HasCause g store fault
HasRunCause g ss schedule store (Schedule n) = IsStray (length ss) schedule n
