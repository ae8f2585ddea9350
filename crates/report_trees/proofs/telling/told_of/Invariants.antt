use Rattle.std.proofs.Common.{◌≤◌, drop, length}
use Rattle.report_trees.specs.Telling.{IsTelling}
use Rattle.report_trees.proofs.telling.told_of.Given as goal

abbrev pub invariant-loop-at : goal.invariant-loop-at
invariant-loop-at l = (l.at ≤ length l.marks) × IsTelling l.count l.at (drop l.at l.marks) l.telling

abbrev pub decreases-loop-at : goal.decreases-loop-at
decreases-loop-at l = l.at
