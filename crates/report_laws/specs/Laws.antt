-- What holds of every report, as statements.
use Rattle.std.specs.Prelude.{◌≡◌, ℕ, IsTrue, List, [], map, slice_get, unwrap_or}
use Rattle.std.specs.List.{AllByRecursion}
use Rattle.serial_spec.specs.declared.entry.By.{By}
use Rattle.serial_spec.specs.declared.entry.By.TheVariants as by
use Rattle.serial_spec.specs.declared.entry.Answer.{Answer}
use Rattle.serial_spec.specs.declared.event.Event.{Event}
use Rattle.serial_spec.specs.Allowed.{Allowed}
use Rattle.serial_spec.specs.Legal.{AreAllowed}
use Rattle.line_language.specs.Events.{IsEvent}
use Rattle.line_language.specs.Answers.{may_answer}
use Rattle.line_language.specs.Entries.{IsAnswer}
use Rattle.line_language.specs.declared.entry.ReportEntry.{ReportEntry}
use Rattle.line_language.specs.declared.entry.ReportEntry.TheVariants as told
use Rattle.serial_spec.specs.History.{History}
use Rattle.line_language.specs.Report.{name_in, report}
use Rattle.serial_spec.specs.Rows.{Rows}
use Rattle.report_check.specs.Verdicts.{HasVerdict}
use Rattle.report_check.specs.declared.verdict.Verdict.TheVariants.{Yes}
use Rattle.report_laws.specs.Whole.{IsRow, IsWhole}

abbrev pub EveryReportIsAccepted : Type 0
EveryReportIsAccepted =
    (opening : Rows) (labels : List (List ℕ)) (h : History) (table : Rows)
    → IsWhole opening labels h table
    → HasVerdict (report opening labels h table) Yes

-- A line of a session that is allowed an answer has one that its event may have in a report, with
-- names and numbers of the grammar, where the opening rows and the events are of the grammar: so no
-- reply of a manager is read as none
abbrev pub AnswersMayStand : Type 0
AnswersMayStand =
    (rows : Rows) (h : History) (s n : ℕ) (e : Event) (a : Answer) → AllByRecursion IsRow rows
    → AllByRecursion (λ x. IsEvent x.event) h → AreAllowed rows h
    → Allowed rows h (by.Line s n) e a → IsTrue (may_answer e a) × IsAnswer a

-- the entry with its session's label
abbrev pub told_by : List (List ℕ) → By → Event → Answer → ReportEntry
told_by labels (by.Line s n) e a = told.Line (unwrap_or (slice_get labels s) []) n e a
told_by labels by.Victim e a = told.Victim (name_in e)
told_by labels by.Close e a = told.Close (name_in e)

abbrev pub entries_told : List (List ℕ) → History → List ReportEntry
entries_told labels h = map (λ x. told_by labels x.by x.event x.answer) h

-- bytes are those of one report, the numbers of its sessions left aside
abbrev pub ReportsTellTheSame : Type 0
ReportsTellTheSame =
    (opening opening2 : Rows) (labels labels2 : List (List ℕ)) (h h2 : History)
    (table table2 : Rows)
    → IsWhole opening labels h table → IsWhole opening2 labels2 h2 table2
    → report opening labels h table ≡ report opening2 labels2 h2 table2
    → (opening ≡ opening2) × (entries_told labels h ≡ entries_told labels2 h2) × (table ≡ table2)
