use Rattle.lock_table.proofs.InTurn.{marked_to_first}
use Rattle.lock_table.proofs.groups.mark.Goals as goal

pub mark_from-requires-clause-marked : goal.mark_from-requires-clause-marked
mark_from-requires-clause-marked c =
    let first = c.group_from-first.ensures in
    marked_to_first c.args.writers.now c.args.txn c.args.key.now c.group_from-first.result (record { some = first.some; first = first.first; none = first.none })
