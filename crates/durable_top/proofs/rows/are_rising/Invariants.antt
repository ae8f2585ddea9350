use Rattle.std.proofs.Common.{◌≤◌, ◌-◌, drop, length}
use Rattle.serial_spec.specs.Rows.{IsRising}
use Rattle.durable_top.specs.Store.{plain}
use Rattle.durable_top.proofs.rows.are_rising.Given as goal

abbrev pub invariant-loop-left : goal.invariant-loop-left
invariant-loop-left l = (l.left ≤ length l.rows) × IsRising (plain (drop (l.left - 1) l.rows))

abbrev pub decreases-loop-left : goal.decreases-loop-left
decreases-loop-left l = l.left
