use Rattle.manager_core.proofs.Locks.{parent_numbered}
use Rattle.manager_core.proofs.tables.Tables.parent_number.Goals as goal

pub returns : goal.returns
returns c =
    rw (← c.self.view_is)
    (parent_numbered c.self.inside.tree c.args._name.now c.args.txn c.unwrap.result c.has_distinct_names.ensures (rw (← c.self.view_is) at c.requires.number)
    (rw c.unwrap.ensures at c.parent_of.ensures.named))
