use Rattle.std.proofs.Common.{sym}
use Rattle.txn_tree.proofs.tree.Tree.live_tops.Goals as goal

pub returns : goal.returns
returns c = rw (sym c.self.view_is) c.self.invariant.1.top_level.live
