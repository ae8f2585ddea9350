use Rattle.std.proofs.Common.{◌≡◌, ◌≤◌, ◌+◌, drop, length}
use Rattle.serial_spec.specs.Changes.{overlay}
use Rattle.serial_spec.specs.Rows.{value_in}
use Rattle.serial_spec.proofs.changing.change_all.Given as goal

abbrev pub invariant-loop-left : goal.invariant-loop-left
invariant-loop-left l = record {
  within : l.left ≤ length l.changes;
  room : l.left ≤ l.table.room;
  values : value_in l.table.rows ≡ overlay (drop l.left l.changes) (value_in l.fn.table.rows);
  kept : l.fn.table.room + l.left ≤ l.table.room + length l.changes;
}

abbrev pub decreases-loop-left : goal.decreases-loop-left
decreases-loop-left l = l.left
