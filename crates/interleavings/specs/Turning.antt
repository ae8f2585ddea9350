-- Sessions under way over a manager, as contracts see them, and what each call does to them.
use Rattle.std.specs.Prelude.{◌≡◌, ◌<◌, ◌≤◌, ◌+◌, ℕ, suc, Bool, MatchBool, false, IsTrue, is_some, List, ◌∷◌, length, map, slice_get, Option, Some, None, option_map}
use Rattle.serial_spec.specs.declared.event.Event.{Event}
use Rattle.serial_spec.specs.History.{Name, History}
use Rattle.serial_spec.specs.Rows.{Rows, value_in}
use Rattle.serial_spec.specs.Allowed.{answer}
use Rattle.serial_spec.specs.Interleaving.{Session, answered, next_event, next_line, AllAnswered, MustGiveUp, IsInterleaving, IsFinished, Step}
use Rattle.serial_spec.specs.Follows.{stuck, NoneGivesUp, AfterClose}
use Rattle.txn_history.specs.Turns.{IsUnderWay}
use Rattle.durable_top.specs.declared.store.TopStore.{Ghosts}
use Rattle.durable_top.specs.Numbered.{entries_in}
use Rattle.durable_top.specs.Store.{counted}
use Rattle.manager_core.specs.State.{State}
use Rattle.manager_core.specs.Sound.{IsTrusted, store_refusals}
use Rattle.manager_core.specs.Opening.{most_rows, IsOpened}
use Rattle.manager_core.specs.StoredNumbers.{IsNumberedAfter}
use Rattle.interleavings.specs.declared.turns.Turn.{Turn}
use Rattle.interleavings.specs.declared.turns.Turn.TheVariants.{Answered, Parked, OutOfTurn}
use Rattle.interleavings.specs.Trails.{Trail}
use Rattle.interleavings.specs.Attempts.{GoesOn}
use Rattle.run_reports.specs.Told.{Told}

pub record Turning (S : Type 0) : Type 0 where
  pub sessions : List Session
  pub core : State S

-- the number of a session's next line
abbrev pub next_number : List Session → History → ℕ → Option ℕ
next_number ss h s = option_map (λ e. suc (answered h s)) (next_event ss h s)

-- the session's next line has this number and asks this
pub record IsDue (ss : List Session) (h : History) (s l : ℕ) (e : Event) : Type 0 where
  pub event : next_event ss h s ≡ Some e
  pub number : l ≡ suc (answered h s)

-- the first session that has a line left, if one has
abbrev pub IsFirstOpen : List Session → History → Option ℕ → Type 0
IsFirstOpen ss h None = AllAnswered ss h
IsFirstOpen ss h (Some s) = IsTrue (is_some (next_event ss h s))
    × ((u : ℕ) → u < s → next_event ss h u ≡ None)

-- whether a line may be answered, or begin to wait
abbrev pub has_answer : Rows → History → ℕ → Option Event → Bool
has_answer rows h s None = false
has_answer rows h s (Some e) = is_some (answer rows h (next_line h s) e)

abbrev pub can_go_on : Rows → List Session → History → ℕ → Bool
can_go_on rows ss h s = has_answer rows h s (next_event ss h s)

-- some session's can
abbrev pub SomeGoesOn : Rows → List Session → History → Type 0
SomeGoesOn rows ss h = (s : ℕ) × IsTrue (can_go_on rows ss h s)

-- none can
abbrev pub NoneGoesOn : Rows → List Session → History → Type 0
NoneGoesOn rows ss h = (s : ℕ) → can_go_on rows ss h s ≡ false

-- it is told which of the two is so
abbrev pub TellsGoesOn : Rows → List Session → History → Bool → Type 0
TellsGoesOn rows ss h goes_on = MatchBool goes_on (SomeGoesOn rows ss h) (NoneGoesOn rows ss h)

-- none of those from one on and before another can
abbrev pub NoneGoesOnFrom : {S : Type 0} → Turning S → ℕ → ℕ → Type 0
NoneGoesOnFrom t from end = (u : ℕ) → from ≤ u → u < end
    → can_go_on t.core.rows t.sessions t.core.history u ≡ false

-- the session whose line must be given up, if one must
abbrev pub TellsStuck : Rows → List Session → History → Option ℕ → Type 0
TellsStuck rows ss h None = NoneGivesUp rows ss h
TellsStuck rows ss h (Some s) = (e : Event) × MustGiveUp rows ss h s e

-- the numbers that are kept are those of the sessions' next lines
pub record AreNext (ss : List Session) (h : History) (numbers : List ℕ) : Type 0 where
  pub count : length numbers ≡ length ss
  pub each : (s : ℕ) → s < length ss → slice_get numbers s ≡ Some (suc (answered h s))

-- what the type keeps: the history is legal and quiet, and takes the sessions' lines in turn; the
-- opening rows are few
pub record AreTurns {S : Type 0} (t : Turning S) (numbers : List ℕ) : Type 0 where
  pub way : IsUnderWay t.core.rows t.sessions t.core.history
  pub few : length t.core.rows ≤ most_rows
  pub next : AreNext t.sessions t.core.history numbers

pub record IsStart {S : Type 0} (g : Ghosts S) (ss : List Session) (store : S)
    (t : Turning S) : Type 0 where
  pub sessions : t.sessions ≡ ss
  pub opened : IsOpened g store t.core

-- what an attempt of session s tells
abbrev pub Tells : {S : Type 0} → Turning S → Turning S → ℕ → Turn → Type 0
Tells old new s Answered = IsTrue (is_some (next_event old.sessions old.core.history s))
    × (answered new.core.history s ≡ suc (answered old.core.history s))
Tells old new s Parked = IsTrue (is_some (next_event old.sessions old.core.history s))
    × (answered new.core.history s ≡ answered old.core.history s)
Tells old new s OutOfTurn = (next_event old.sessions old.core.history s ≡ None) × (new ≡ old)

-- one attempt of session s
pub record Stepped {S : Type 0} (g : Ghosts S) (old new : Turning S) (s : ℕ)
    (turn : Turn) : Type 0 where
  pub sessions : new.sessions ≡ old.sessions
  pub step : Step old.core.rows old.sessions old.core.history s new.core.history
  pub told : Tells old new s turn
  pub on : GoesOn g old.core new.core

-- the line that was given up, by its session and number, is the one that had to be; nothing changed
-- where none had to be
abbrev pub GivesUpLine : {S : Type 0} → Turning S → Turning S → Option (ℕ × ℕ) → Type 0
GivesUpLine old new None = NoneGivesUp old.core.rows old.sessions old.core.history × (new ≡ old)
GivesUpLine old new (Some line) =
    (line.1 ≡ suc (answered old.core.history line.0))
    × ((e : Event) × MustGiveUp old.core.rows old.sessions old.core.history line.0 e
    × (new.core.history ≡ stuck old.core.history line.0 e ∷ old.core.history))

-- the stuck rule was applied once
pub record Unstuck {S : Type 0} (g : Ghosts S) (old new : Turning S)
    (line : Option (ℕ × ℕ)) : Type 0 where
  pub sessions : new.sessions ≡ old.sessions
  pub told : GivesUpLine old new line
  pub on : GoesOn g old.core new.core

-- the report after the close, and the store that comes back with it
pub record IsClosed {S : Type 0} (g : Ghosts S) (old : Turning S) (r : Told)
    (left : S) : Type 0 where
  pub answered : AllAnswered old.sessions old.core.history
  pub opening : r.opening ≡ old.core.rows
  pub labels : r.labels ≡ map (λ s. s.label) old.sessions
  pub names : List Name
  pub close : AfterClose old.core.history names r.history
  pub interleaving : IsInterleaving r.opening old.sessions r.history
  pub finished : IsFinished old.sessions r.history
  -- the close asks nothing of the store
  pub store : left ≡ old.core.store
  pub trail : Trail g old.core.rows old.core.history old.core.store r.history left
  -- the store has the final table until its device fails, and counted the commits that it refused
  pub stored : IsTrusted g left → g.table left ≡ value_in r.table
  -- with the numbers that the history gives
  pub numbered : IsTrusted g left
      → IsNumberedAfter (entries_in old.core.opened.given.items) r.history (g.numbered left)
  pub refusals : g.faults left ≡ counted (old.core.opened.faults + store_refusals r.history)
