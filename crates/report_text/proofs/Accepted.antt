-- What every report says is what the law of accepted reports asks.
use Rattle.std.proofs.Common.{[], ◌∷◌, Result, Ok, Err}
use Rattle.std.specs.Prelude.{OnOk}
use Rattle.std.specs.List.{AllByRecursion}
use Rattle.line_language.specs.Report.{report}
use Rattle.serial_spec.specs.Rows.{Rows}
use Rattle.run_reports.specs.Reports.{IsReport}
use Rattle.run_reports.specs.Reports.{IsRow as IsSpelledRow}
use Rattle.run_reports.specs.Told.{Told}
use Rattle.report_check.specs.Verdicts.{HasVerdict}
use Rattle.report_check.specs.declared.verdict.Verdict.TheVariants.{Yes}
use Rattle.report_laws.specs.Whole.{IsRow, IsWhole}
use Rattle.report_laws.proofs.Exports.{every_report_is_accepted}

rows_are : (rows : Rows) → AllByRecursion IsSpelledRow rows → AllByRecursion IsRow rows
rows_are [] all = tt
rows_are (r ∷ rows) all = (record { key = all.0.key; value = all.0.value }, rows_are rows all.1)

is_whole : (r : Told) → IsReport r → IsWhole r.opening r.labels r.history r.table
is_whole r is = record {
  sessions = is.of_sessions.sessions;
  text = is.of_sessions.text;
  labelled = is.of_sessions.labels;
  in_turn = is.of_sessions.in_turn;
  finished = is.of_sessions.finished;
  rows = rows_are r.opening is.rows;
  first = record { few = is.few; rising = is.rising };
  last = record { few = is.few_left; rising = is.in_order };
  legal = is.legal;
  runs = is.runs;
}

pub accepted : (r : Told) → IsReport r → HasVerdict (report r.opening r.labels r.history r.table) Yes
accepted r is = every_report_is_accepted r.opening r.labels r.history r.table (is_whole r is)

pub on_ok : {T E P : Type 0} (r : Result T E) → P → OnOk r P
on_ok (Ok x) p = p
on_ok (Err e) p = tt
