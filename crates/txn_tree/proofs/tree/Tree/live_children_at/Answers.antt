use Rattle.std.proofs.Common.{sym}
use Rattle.txn_tree.proofs.Siblings.{live_at}
use Rattle.txn_tree.proofs.tree.Tree.live_children_at.Goals as goal

pub returns : goal.returns
returns c = rw (sym c.self.view_is, c.children_at.ensures) (live_at _ _ _ c.self.invariant.0 c.self.invariant.1 c.args.txn)
