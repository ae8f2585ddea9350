use Rattle.std.proofs.Common.{take}
use Rattle.wait_graph.specs.Edges.{AreOwnBranches}
use Rattle.wait_graph.proofs.branch.are_alone_in_branches.Given as goal

-- those that were looked at are alone in their branches
abbrev pub invariant-loop-place : goal.invariant-loop-place
invariant-loop-place l = AreOwnBranches l.tree l.txn (take l.place l.blockers)
