-- What an entry of a report may say, and how it is spelled with the label of its session.
use Rattle.std.specs.Prelude.{ℕ, ◌≤◌, IsTrue, List, ◌++◌, codes, decimal}
use Rattle.txn_names.specs.Text.{IsLabel, IsName, spelled_name}
use Rattle.serial_spec.specs.declared.limits.TheConstants.{MOST_LINES}
use Rattle.serial_spec.specs.declared.operation.Reply.TheVariants.{Value, New}
use Rattle.serial_spec.specs.declared.entry.Refusal.TheVariants.{Orphan}
use Rattle.serial_spec.specs.declared.entry.Answer.{Answer}
use Rattle.serial_spec.specs.declared.entry.Answer.TheVariants.{Done, Refused}
use Rattle.serial_spec.specs.Operations.{is_i64}
use Rattle.line_language.specs.Printing.{spelled_answer, spelled_event}
use Rattle.line_language.specs.Events.{IsEvent}
use Rattle.line_language.specs.Answers.{may_answer}
use Rattle.line_language.specs.declared.entry.ReportEntry.{ReportEntry}
use Rattle.line_language.specs.declared.entry.ReportEntry.TheVariants.{Line, Victim, Close}

-- numbers and names are such
abbrev pub IsAnswer : Answer → Type 0
IsAnswer (Done (Value v)) = IsTrue (is_i64 v)
IsAnswer (Done (New v)) = IsTrue (is_i64 v)
IsAnswer (Refused (Orphan t)) = IsName t
IsAnswer a = Unit {0}

-- the parts of a line's entry are such, and the answer is one that the event may have
pub record IsTold (l : List ℕ) (n : ℕ) (e : _) (a : Answer) : Type 0 where
  pub label : IsLabel l
  pub first : 1 ≤ n
  pub last : n ≤ MOST_LINES
  pub event : IsEvent e
  pub answer : IsAnswer a
  pub fits : IsTrue (may_answer e a)

abbrev pub IsReportEntry : ReportEntry → Type 0
IsReportEntry (Line l n e a) = IsTold l n e a
IsReportEntry (Victim t) = IsName t
IsReportEntry (Close t) = IsName t

abbrev pub spelled_report_entry : ReportEntry → List ℕ
spelled_report_entry (Line l n e a) = l ++ codes " " ++ decimal n ++ codes " " ++ spelled_event e
    ++ codes " -> " ++ spelled_answer a
spelled_report_entry (Victim t) = codes "* victim " ++ spelled_name t
spelled_report_entry (Close t) = codes "* close " ++ spelled_name t
