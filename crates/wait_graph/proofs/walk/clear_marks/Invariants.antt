use Rattle.std.proofs.Common.{◌≡◌, ◌≤◌, ℕ, false, length, slice_index_or, vec_capacity}
use Rattle.wait_graph.proofs.walk.clear_marks.Given as goal

abbrev pub invariant-loop : goal.invariant-loop
invariant-loop l = record {
  none : (place : ℕ) → slice_index_or l.marks.items place false ≡ false;
  len : length l.marks.items ≡ l.counter;
  capacity : vec_capacity l.initial.marks ≤ vec_capacity l.marks;
}
