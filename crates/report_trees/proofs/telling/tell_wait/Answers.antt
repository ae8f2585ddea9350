use Rattle.std.proofs.Common.{◌≡◌, ◌<◌, ◌≤◌, ◌∙◌, List, length, ap, sym, arith}
use Rattle.std.specs.Prelude.{slice_set}
use Rattle.report_trees.specs.Telling.{told_wait}
use Rattle.report_trees.proofs.Changing.{changed_past, changed_set}
use Rattle.report_trees.proofs.telling.tell_wait.Goals as goal

pub returns-then-wait-len : goal.returns-then-wait-len
returns-then-wait-len c =
    let us = c.args.told.now.items in
    let less : c.args.wait.number < length us = omega (arith, c.if-wait-len.true, c.len.ensures) in
    ap (λ t. slice_set us c.args.wait.number t) c.told_wait.ensures ∙ changed_set us c.args.wait.number (told_wait c.args.wait) c.index.result.now less c.index.ensures

pub returns-else-wait-len : goal.returns-else-wait-len
returns-else-wait-len c =
    let us = c.args.told.now.items in
    let past : length us ≤ c.args.wait.number = omega (arith, c.if-wait-len.false, c.len.ensures) in
    changed_past us c.args.wait.number (told_wait c.args.wait) past
