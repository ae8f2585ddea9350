use Rattle.std.proofs.Common.{◌≡◌, ◌≤◌, ◌+◌, ◌++◌, length, vec_capacity}
use Rattle.row_store.proofs.rows.empty.Given as goal

abbrev pub invariant-loop-alloc : goal.invariant-loop-alloc
invariant-loop-alloc l = record {
  rows : l.taken.items ++ l.rows.items ≡ l.fn.rows.items;
  fits : length l.taken.items + length l.rows.items ≤ vec_capacity l.taken;
  room : l.fn.rows.capacity ≤ l.rows.capacity;
}

abbrev pub decreases-loop-alloc : goal.decreases-loop-alloc
decreases-loop-alloc l = length l.rows.items
