use Rattle.std.proofs.Common.{sym}
use Rattle.txn_tree.proofs.Siblings.{branches, first_at, first_later}
use Rattle.txn_tree.proofs.tree.Tree.first_child.Goals as goal

pub returns-clause-first : goal.returns-clause-first
returns-clause-first c = rw (sym c.self.view_is, c.children_at.ensures) (first_at _ _ _ c.self.invariant.0 c.self.invariant.1 c.args.txn)

pub returns-clause-later : goal.returns-clause-later
returns-clause-later c = rw c.children_at.ensures (first_later _ _ _ c.self.invariant.0 c.self.invariant.1 c.args.txn)

pub returns-clause-branches : goal.returns-clause-branches
returns-clause-branches c = rw (sym c.self.view_is) (branches _ _ _ c.self.invariant.0 c.self.invariant.1 c.args.txn)
