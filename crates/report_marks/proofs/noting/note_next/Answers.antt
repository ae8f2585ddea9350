use Rattle.std.proofs.Common.{◌∙◌, sym, ap}
use Rattle.report_check.specs.Passing.{next_at}
use Rattle.report_marks.specs.Noted.{stage_of}
use Rattle.report_marks.proofs.Stepping.{at_entries, at_rows, noted_behind, on_ok, reaches_along}
use Rattle.report_marks.proofs.noting.note_next.Goals as goal

pub returns-in-Rows : goal.returns-in-Rows
returns-in-Rows c =
    on_ok c.note_opening.result c.note_opening.ensures
    (λ g reaches r noted at. reaches_along _ _ g _ (ap (λ p. next_at p r c.args.line.now) (at_rows r.part (sym c.in-Rows.is ∙ at))) (reaches r noted))

pub returns-in-Entries : goal.returns-in-Entries
returns-in-Entries c =
    on_ok c.note_middle.result c.note_middle.ensures
    (λ g reaches r noted at. reaches_along _ _ g _ (ap (λ p. next_at p r c.args.line.now) (at_entries r.part (sym c.in-Entries.is ∙ at))) (reaches r noted))

pub returns-in-Behind : goal.returns-in-Behind
returns-in-Behind c r noted at = noted_behind r c.args.line.now c.args.notes.now noted (sym c.in-Behind.is ∙ at)
