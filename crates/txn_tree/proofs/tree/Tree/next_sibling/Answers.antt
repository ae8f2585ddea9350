use Rattle.std.proofs.Common.{sym}
use Rattle.txn_tree.proofs.Siblings.{next_at}
use Rattle.txn_tree.proofs.tree.Tree.next_sibling.Goals as goal

pub returns : goal.returns
returns c = rw (sym c.self.view_is, c.next_in.ensures) (next_at _ _ _ c.self.invariant.0 c.self.invariant.1 c.args.txn)
