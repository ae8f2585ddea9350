use Rattle.std.proofs.Common.{◌≡◌, ◌≤◌, ◌+◌, ◌++◌, length}
use Rattle.row_store.proofs.rows.put_back.Given as goal

abbrev pub invariant-loop-taken : goal.invariant-loop-taken
invariant-loop-taken l = record {
  rows : l.rows.items ++ l.taken.items ≡ l.fn.rows.items ++ l.fn.taken.items;
  fits : length l.rows.items + length l.taken.items ≤ l.rows.capacity;
  room : l.fn.rows.capacity ≤ l.rows.capacity;
}

abbrev pub decreases-loop-taken : goal.decreases-loop-taken
decreases-loop-taken l = length l.taken.items
