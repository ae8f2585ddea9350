use Rattle.std.proofs.Common.{◌≤◌, drop, length}
use Rattle.durable_top.specs.Numbered.{AreNumbered}
use Rattle.durable_top.proofs.rows.are_numbered.Given as goal

abbrev pub invariant-loop-left : goal.invariant-loop-left
invariant-loop-left l = (l.left ≤ length l.rows) × AreNumbered (drop l.left l.rows)

abbrev pub decreases-loop-left : goal.decreases-loop-left
decreases-loop-left l = l.left
