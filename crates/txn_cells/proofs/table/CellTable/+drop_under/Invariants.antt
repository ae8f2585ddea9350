use Rattle.std.proofs.Common.{◌-◌, length}
use Rattle.txn_tree.specs.States.{names}
use Rattle.txn_cells.proofs.Dropping.{IsDropping, ahead}
use Rattle.txn_cells.proofs.table.CellTable.+drop_under.Given as goal

abbrev pub decreases-drop_under : goal.decreases-drop_under
decreases-drop_under g l = length (names l.tree.now) - l.txn

abbrev pub invariant-loop-next : goal.invariant-loop-next
invariant-loop-next g l = IsDropping l.tree l.fn.txn l.fn.self l.self l.next

abbrev pub decreases-loop-next : goal.decreases-loop-next
decreases-loop-next g l = ahead (length (names l.tree)) l.next
