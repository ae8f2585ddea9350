use Rattle.std.proofs.Common.{◌∙◌, sym, ap}
use Rattle.report_check.specs.Passing.{opening_next}
use Rattle.report_marks.proofs.Stepping.{on_ok, reaches_along}
use Rattle.report_marks.proofs.noting.note_opening.Goals as goal

pub returns-in-None : goal.returns-in-None
returns-in-None c =
    on_ok c.note_middle.result c.note_middle.ensures
    (λ g reaches r noted. reaches_along _ _ g _ (ap (opening_next r c.args.line.now) (sym c.parse_row.ensures ∙ c.in-None.is)) (reaches r noted))
