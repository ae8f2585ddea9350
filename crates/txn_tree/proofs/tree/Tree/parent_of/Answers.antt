use Rattle.std.proofs.Common.{sym}
use Rattle.txn_tree.proofs.Told.{told, closed}
use Rattle.txn_tree.proofs.tree.Tree.parent_of.Goals as goal

pub returns-clause-some : goal.returns-clause-some
returns-clause-some c =
    rw (sym c.self.view_is, c.parent_in.ensures) (told _ _ _ c.self.invariant.0 c.self.invariant.1 c.args.txn).0

pub returns-clause-named : goal.returns-clause-named
returns-clause-named c =
    rw (sym c.self.view_is, c.parent_in.ensures) (told _ _ _ c.self.invariant.0 c.self.invariant.1 c.args.txn).1

pub returns-clause-earlier : goal.returns-clause-earlier
returns-clause-earlier c =
    rw c.parent_in.ensures (told _ _ _ c.self.invariant.0 c.self.invariant.1 c.args.txn).2

pub returns-clause-closed : goal.returns-clause-closed
returns-clause-closed c = rw (sym c.self.view_is) (closed _ _ _ c.self.invariant.0 c.self.invariant.1)
