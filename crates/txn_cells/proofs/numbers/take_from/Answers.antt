use Rattle.std.proofs.Common.{◌∙◌}
use Rattle.txn_cells.proofs.ByKey.{not_taken, taken}
use Rattle.txn_cells.proofs.numbers.take_from.Goals as goal

pub returns-in-Ok-clause-left : goal.returns-in-Ok-clause-left
returns-in-Ok-clause-left c =
    let is = rw c.deref.ensures.value at c.binary_search.ensures.position in
    c.remove.ensures.items ∙ (taken c.args.numbers.now.items c.args.txn c.requires c.binary_search.result is c.in-Ok.place c.in-Ok.is).1

pub returns-in_default-clause-left : goal.returns-in_default-clause-left
returns-in_default-clause-left c =
    let is = rw c.deref.ensures.value at c.binary_search.ensures.position in
    not_taken c.args.numbers.now.items c.args.txn c.requires c.binary_search.result is c.in_default.field-0 c.in_default.is
