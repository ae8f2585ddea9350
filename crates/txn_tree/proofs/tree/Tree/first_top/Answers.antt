use Rattle.std.proofs.Common.{sym}
use Rattle.txn_tree.proofs.Siblings.{some_top}
use Rattle.txn_tree.proofs.tree.Tree.first_top.Goals as goal

pub returns-clause-first : goal.returns-clause-first
returns-clause-first c = rw (sym c.self.view_is) c.self.invariant.1.top_level.first

pub returns-clause-begun : goal.returns-clause-begun
returns-clause-begun c = rw (sym c.self.view_is) (some_top _ _ _ c.self.invariant.0 c.self.invariant.1)
