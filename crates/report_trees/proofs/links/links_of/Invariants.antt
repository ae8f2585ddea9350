use Rattle.std.proofs.Common.{◌≤◌, length}
use Rattle.report_trees.specs.inner.Linked.{IsLinkedFrom}
use Rattle.report_trees.proofs.links.links_of.Given as goal

abbrev pub invariant-loop-number : goal.invariant-loop-number
invariant-loop-number l = (l.number ≤ length l.places) × IsLinkedFrom l.places l.number l.links

abbrev pub decreases-loop-number : goal.decreases-loop-number
decreases-loop-number l = l.number
