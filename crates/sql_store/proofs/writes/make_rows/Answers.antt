use Rattle.std.proofs.Common.{SFits, w64, sym, ◌∙◌}
use Rattle.std.proofs.lemmas.Int.{to_z-of_z}
use Rattle.sql_store.proofs.Pieces.{rows_ran, rows_failed, rows_left}
use Rattle.sql_store.proofs.writes.make_rows.Goals as goal

pub returns-in-Ok-clause-answers : goal.returns-in-Ok-clause-answers
returns-in-Ok-clause-answers g c =
    let number : SFits w64 c.args.number = c.ranges.number in
    let ran = simp to_z-of_z at c.in-Ok.ensures.runs in
    rows_ran g.S.Store c.args.number c.in-Ok.field-0 ran c.insert_rows.ensures.survives

pub returns-then-breaks_rule-clause-answers : goal.returns-then-breaks_rule-clause-answers
returns-then-breaks_rule-clause-answers g c =
    let number : SFits w64 c.args.number = c.ranges.number in
    let ran = simp to_z-of_z at c.in-Err.ensures.runs in
    let each = simp to_z-of_z at c.make_each.ensures.answers in
    rows_left g.S.Store c.args.number c.in-Err.error (sym c.breaks_rule.ensures ∙ c.if-breaks_rule.true) ran c.insert_rows.ensures.survives each

pub returns-else-breaks_rule-clause-answers : goal.returns-else-breaks_rule-clause-answers
returns-else-breaks_rule-clause-answers g c =
    let number : SFits w64 c.args.number = c.ranges.number in
    let ran = simp to_z-of_z at c.in-Err.ensures.runs in
    rows_failed g.S.Store c.args.number (sym c.breaks_rule.ensures ∙ c.if-breaks_rule.false) ran c.insert_rows.ensures.survives
