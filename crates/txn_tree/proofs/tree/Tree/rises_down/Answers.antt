use Rattle.std.proofs.Common.{sym}
use Rattle.txn_tree.proofs.Under.{rises_down}
use Rattle.txn_tree.proofs.tree.Tree.rises_down.Goals as goal

pub returns : goal.returns
returns c =
    rw (sym c.self.view_is) (rises_down c.self.inside.register c.self.inside.nodes.items c.self.inside.tops c.self.invariant.0 c.self.invariant.1 c.args._inferior)
