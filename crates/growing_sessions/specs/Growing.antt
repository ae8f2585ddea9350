-- Sessions that grow while they run: by a line behind the others of its session, or by a session
-- behind the others.
use Rattle.std.specs.Prelude.{◌≡◌, ◌<◌, ◌≤◌, ◌++◌, ℕ, List, [], ◌∷◌, length, map, codes, slice_get, IsFalse, Some}
use Rattle.txn_names.specs.Text.{IsLabel}
use Rattle.serial_spec.specs.declared.entry.By.{By}
use Rattle.serial_spec.specs.declared.entry.By.TheVariants.{Line, Victim, Close}
use Rattle.serial_spec.specs.declared.event.Event.{Event}
use Rattle.serial_spec.specs.declared.entry.Answer.{Answer}
use Rattle.serial_spec.specs.declared.entry.Answer.TheVariants.{Stuck}
use Rattle.serial_spec.specs.declared.limits.TheConstants.{MOST_LINES, MOST_SESSIONS}
use Rattle.serial_spec.specs.History.{History}
use Rattle.serial_spec.specs.Rows.{Rows}
use Rattle.serial_spec.specs.Interleaving.{Session, lines_of, answered, IsInterleaving, Step}
use Rattle.serial_spec.specs.Follows.{StepOfEach}
use Rattle.line_language.specs.Report.{line, spelled_rows, spelled_history, report}
use Rattle.txn_history.specs.Turns.{IsUnderWay}
use Rattle.line_language.specs.Events.{IsEvent}
use Rattle.session_text.specs.Grammar.{IsText, is_taken}
use Rattle.session_text.specs.Growing.{with_line_of}
use Rattle.session_text.specs.Texts.{with_header}

-- Each session of the first list stands in the second at the same place, with its label and its
-- lines, and maybe more
pub record Extends (ss more : List Session) : Type 0 where
  pub lines : (s n : ℕ) (e : Event) → slice_get (lines_of (slice_get ss s)) n ≡ Some e
      → slice_get (lines_of (slice_get more s)) n ≡ Some e
  pub labels : (s : ℕ) (l : List ℕ) → slice_get (map (λ (x : Session). x.label) ss) s ≡ Some l
      → slice_get (map (λ (x : Session). x.label) more) s ≡ Some l

-- growths one behind the other are one, and so is none
abbrev pub GrowthsJoin : Type 0
GrowthsJoin =
    ((ss : List Session) → Extends ss ss)
    × ((ss mid more : List Session) → Extends ss mid → Extends mid more → Extends ss more)

-- An entry that stays right when more lines come: no line was given up by it, since a line that
-- comes later could go on; and it is none of the close, which comes after all lines
abbrev pub StaysRight : By → Answer → Type 0
StaysRight (Line s l) Stuck = ⊥
StaysRight (Line s l) a = Unit {0}
StaysRight Victim a = Unit {0}
StaysRight Close a = ⊥

abbrev pub IsOpenEnded : History → Type 0
IsOpenEnded [] = Unit {0}
IsOpenEnded (e ∷ h) = IsOpenEnded h × StaysRight e.by e.answer

abbrev pub GrowthKeeps : Type 0
GrowthKeeps = (rows : Rows) (ss more : List Session) (h : History) → Extends ss more → IsOpenEnded h
    → IsUnderWay rows ss h → IsUnderWay rows more h

abbrev pub StepStaysOpen : Type 0
StepStaysOpen = (rows : Rows) (ss : List Session) (h h2 : History) (s : ℕ) → IsOpenEnded h
    → Step rows ss h s h2 → IsOpenEnded h2

abbrev pub RoundStaysOpen : Type 0
RoundStaysOpen = (rows : Rows) (ss : List Session) (n : ℕ) (h h2 : History) → IsOpenEnded h
    → StepOfEach rows ss n h h2 → IsOpenEnded h2

-- ---- the two ways of growing

abbrev pub LineExtends : Type 0
LineExtends = (ss : List Session) (s : ℕ) (e : Event) → Extends ss (with_line_of ss s e)

abbrev pub SessionExtends : Type 0
SessionExtends = (ss : List Session) (l : List ℕ) → Extends ss (with_header ss l)

abbrev pub LineKeepsText : Type 0
LineKeepsText =
    (ss : List Session) (s : ℕ) (e : Event) → IsText ss → IsEvent e
    → length (lines_of (slice_get ss s)) < MOST_LINES
    → IsText (with_line_of ss s e)

abbrev pub SessionKeepsText : Type 0
SessionKeepsText =
    (ss : List Session) (l : List ℕ) → IsText ss → IsLabel l → IsFalse (is_taken l ss)
    → length ss < MOST_SESSIONS
    → IsText (with_header ss l)

abbrev pub NewSessionUnanswered : Type 0
NewSessionUnanswered = (rows : Rows) (ss : List Session) (h : History) (s : ℕ)
    → IsInterleaving rows ss h → length ss ≤ s → answered h s ≡ 0

-- ---- what is written

abbrev pub labels_in : List Session → List (List ℕ)
labels_in ss = map (λ (x : Session). x.label) ss

abbrev pub HistoryReadsSame : Type 0
HistoryReadsSame =
    (rows : Rows) (ss more : List Session) (h : History)
    → Extends ss more → IsInterleaving rows ss h
    → spelled_history (labels_in more) h ≡ spelled_history (labels_in ss) h

-- what is written of a run that goes on
abbrev pub begun_report : Rows → List (List ℕ) → History → List ℕ
begun_report opening labels h = line (codes "open") ++ spelled_rows opening
    ++ spelled_history labels h

-- of every run that goes on from here, whatever sessions and entries come and whatever table it
-- ends with
abbrev pub ReportBegins : Type 0
ReportBegins =
    (rows : Rows) (ss more : List Session) (h later : History) (table : Rows) → Extends ss more
    → IsInterleaving rows ss h
    → (rest : List ℕ)
    × (report rows (labels_in more) (later ++ h) table ≡ begun_report rows (labels_in ss) h
    ++ rest)
