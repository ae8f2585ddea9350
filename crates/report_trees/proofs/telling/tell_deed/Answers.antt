use Rattle.std.proofs.Common.{◌≡◌, ◌<◌, ◌≤◌, ◌∙◌, List, length, ap, sym, arith}
use Rattle.std.specs.Prelude.{slice_set}
use Rattle.report_trees.specs.Telling.{changed_at, told_by}
use Rattle.report_trees.proofs.Changing.{changed_past, changed_set}
use Rattle.report_trees.proofs.telling.tell_deed.Goals as goal

pub returns-then-number-len : goal.returns-then-number-len
returns-then-number-len c =
    let us = c.args.told.now.items in
    let n = c.in-Some.number in
    let f = told_by c.args.at c.args.by c.args.deed in
    let less : n < length us = omega (arith, c.if-number-len.true, c.len.ensures) in
    ap (λ t. slice_set us n t) c.told_by.ensures ∙ changed_set us n f c.index.result.now less c.index.ensures
    ∙ ap (λ o. changed_at o f us) (sym c.in-Some.is ∙ c.number_in.ensures)

pub returns-else-number-len : goal.returns-else-number-len
returns-else-number-len c =
    let us = c.args.told.now.items in
    let n = c.in-Some.number in
    let f = told_by c.args.at c.args.by c.args.deed in
    let past : length us ≤ n = omega (arith, c.if-number-len.false, c.len.ensures) in
    changed_past us n f past ∙ ap (λ o. changed_at o f us) (sym c.in-Some.is ∙ c.number_in.ensures)
