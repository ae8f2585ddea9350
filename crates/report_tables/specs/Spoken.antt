-- The sessions that a report names.
use Rattle.std.specs.Prelude.{◌≡◌, ◌≤◌, ◌<◌, ℕ, List, ◌∷◌, length, slice_get, suc, ◌==◌, ◌&&◌, Bool, true, false, Option, Some, None, IfSome, if◌then◌else◌}
use Rattle.std.specs.Map.{keys_of, values_of}
use Rattle.line_language.specs.Events.{IsEvent}
use Rattle.serial_spec.specs.declared.limits.TheConstants.{MOST_SESSIONS}
use Rattle.serial_spec.specs.declared.entry.By.TheVariants as by
use Rattle.serial_spec.specs.declared.event.Event.{Event}
use Rattle.serial_spec.specs.declared.entry.Answer.{Answer}
use Rattle.serial_spec.specs.declared.entry.Entry.{Entry}
use Rattle.serial_spec.specs.History.{History}
use Rattle.serial_spec.specs.Interleaving.{answered}
use Rattle.serial_spec.specs.Waits.{is_waits}
use Rattle.report_check.specs.Passing.{goes_on, session_of, waiting, with_label}
use Rattle.report_tables.specs.declared.sessions.Session.{Session}

-- what is kept of the session s is what the history says
pub record IsSessionOf (h : History) (s : ℕ) (x : Session) : Type 0 where
  pub answered : x.answered ≡ answered h s
  pub waits : x.waits ≡ waiting h s
  pub event : IfSome x.waits IsEvent

-- the sessions are those of these labels, in their order, as the history says; those that come
-- later have no entry
pub record AreSessionsOf (labels : List (List ℕ)) (h : History)
    (es : List (List ℕ × Session)) : Type 0 where
  pub keys : keys_of es ≡ labels
  pub few : length labels ≤ MOST_SESSIONS
  pub each : (s : ℕ) (x : Session) → slice_get (values_of es) s ≡ Some x → IsSessionOf h s x
  pub later : (s : ℕ) → length labels ≤ s → (answered h s ≡ 0) × (waiting h s ≡ None)

-- the number of the label's session, which is among them afterwards, unless it would be one too
-- many
pub record IsNumberOf (labels : List (List ℕ)) (l : List ℕ) (h : History) (n : ℕ)
    (es : List (List ℕ × Session)) : Type 0 where
  pub number : n ≡ session_of labels l
  pub allowed : n < MOST_SESSIONS
  pub within : n < length (with_label labels l)
  pub sessions : AreSessionsOf (with_label labels l) h es

abbrev pub IsNumbered : List (List ℕ) → List ℕ → History → Option ℕ → List (List ℕ × Session)
    → Type 0
IsNumbered labels l h None es = MOST_SESSIONS ≤ session_of labels l
IsNumbered labels l h (Some n) es = IsNumberOf labels l h n es

abbrev pub told_session : ℕ → Event → Answer → ℕ → Session
told_session line e a before = if is_waits a then record { answered = before; waits = Some e }
    else record { answered = line; waits = None }

-- this holds of the labels, and of each history, that these sessions are those of
abbrev pub OfSessions : List (List ℕ × Session) → (List (List ℕ) → History → Type 0) → Type 0
OfSessions es P = (labels : List (List ℕ)) (h : History) → AreSessionsOf labels h es → P labels h

-- whether an entry may be of the session's next line
abbrev pub may_come : History → ℕ → ℕ → Event → Answer → Bool
may_come h s n e a = n == suc (answered h s) && goes_on (waiting h s) e a

abbrev pub line_entry : ℕ → ℕ → Event → Answer → Entry
line_entry s n e a = record { by = by.Line s n; event = e; answer = a }

-- it is told whether the entry may be of the session's next line, and if so the sessions are as it
-- leaves them
abbrev pub Tells : Bool → List (List ℕ) → History → ℕ → ℕ → Event → Answer → List (List ℕ × Session)
    → Type 0
Tells true labels h s n e a es = (may_come h s n e a ≡ true)
    × AreSessionsOf labels (line_entry s n e a ∷ h) es
Tells false labels h s n e a es = may_come h s n e a ≡ false

-- the same of an event of a text, and of a session that has a label
abbrev pub TakesLine : List (List ℕ) → History → ℕ → ℕ → Event → Answer → List (List ℕ × Session)
    → Bool → Type 0
TakesLine labels h s n e a es told = IsEvent e → s < length labels → Tells told labels h s n e a es
