use Rattle.wait_graph.proofs.Branches.{IsParting}
use Rattle.wait_graph.proofs.branch.branch_of.Given as goal

-- it is the blocker or above it, and not so with the transaction
abbrev pub invariant-loop-parent : goal.invariant-loop-parent
invariant-loop-parent l = IsParting l.tree l.txn l.fn.blocker l.top

-- a parent has a smaller number
abbrev pub decreases-loop-parent : goal.decreases-loop-parent
decreases-loop-parent l = l.top
