-- Lines that are parked: what comes of an `after` line, and what its condition is by the cause that
-- refuses other lines.
use Rattle.std.specs.Prelude.{◌≡◌, ◌⊎◌, ℕ, Bool, true, false, Option, Some, None}
use Rattle.txn_tree.specs.Asked.{IsNumberOf}
use Rattle.txn_tree.specs.States.{States}
use Rattle.serial_spec.specs.declared.entry.By.{By}
use Rattle.serial_spec.specs.declared.entry.By.TheVariants.{Line}
use Rattle.serial_spec.specs.declared.entry.Refusal.{Refusal}
use Rattle.serial_spec.specs.declared.entry.Refusal.TheVariants.{Unknown}
use Rattle.serial_spec.specs.declared.event.Event.{Event}
use Rattle.serial_spec.specs.declared.target.Asked.{Asked}
use Rattle.serial_spec.specs.declared.event.When.{When}
use Rattle.serial_spec.specs.declared.event.When.TheVariants.{Begun, Done as Ended}
use Rattle.serial_spec.specs.History.{History, Name, event_of}
use Rattle.serial_spec.specs.Rows.{Rows}
use Rattle.serial_spec.specs.Allowed.{answer, is_full_for}
use Rattle.txn_history.specs.Lines.{CanGiveUp, IsFree, IsWaitOf}
use Rattle.manager_core.specs.declared.outcome.Outcome.{Outcome}
use Rattle.manager_core.specs.declared.outcome.Outcome.TheVariants.{Waits}
use Rattle.manager_core.specs.State.{State}
use Rattle.manager_core.specs.Calls.{Added}

-- the condition does not hold yet: the line waits, without an entry, and nothing has changed
pub record Awaits {S : Type 0} (old new : State S) (by : By) (event : Event)
    (outcome : Outcome) : Type 0 where
  pub none : answer old.rows old.history by event ≡ None
  pub outcome_is : outcome ≡ Waits
  pub same : new ≡ old

-- the line was answered, or its condition does not hold yet
abbrev pub Awaited : {S : Type 0} → State S → State S → By → Event → Outcome → Type 0
Awaited old new by event outcome = Added old new by event outcome ⊎ Awaits old new by event outcome

-- the transaction with this number waits for the access by this line, and the access makes no key
-- one too many
pub record WaitsOn (rows : Rows) (h : History) (tree : States) (by : By) (t : Name) (asked : Asked)
    (n : ℕ) : Type 0 where
  pub number : IsNumberOf tree t n
  pub waits : IsWaitOf h by (event_of t asked)
  pub room : is_full_for rows h asked ≡ false

-- a call may give the line up, and no call answers it
pub record IsKeptOut (rows : Rows) (h : History) (by : By) (event : Event) : Type 0 where
  pub can : CanGiveUp h by event
  pub none : answer rows h by event ≡ None

-- no access waits by any line
abbrev pub NobodyWaits : History → Type 0
NobodyWaits h = (by : By) (event : Event) → IsWaitOf h by event → ⊥

-- whatever the line may be attempted with, it is kept out
abbrev pub IsParked : Rows → History → By → Type 0
IsParked rows h by = (event : Event) → IsFree h by event ⊎ IsWaitOf h by event
    → IsKeptOut rows h by event

-- an access waits by a line of the session, and is kept out
pub record IsSessionParked (rows : Rows) (h : History) (s : ℕ) : Type 0 where
  pub line : ℕ
  pub event : Event
  pub waits : IsWaitOf h (Line s line) event
  pub kept : IsKeptOut rows h (Line s line) event

-- Whether a condition holds, by the cause that refuses an abort: whoever has begun is live, or has
-- come to its end
abbrev pub come_by : Option Refusal → When → Bool
come_by (Some Unknown) when = false
come_by (Some cause) when = true
come_by None Begun = true
come_by None Ended = false
