use Rattle.std.proofs.Common.{◌≡◌, ◌≤◌, ◌+◌, ◌*◌, ◌-◌, length}
use Rattle.std.specs.Prelude.{vec_capacity, vec_len}
use Rattle.wait_graph.specs.Edges.{ByLocks, edges_among}
use Rattle.wait_graph.specs.Walks.{unmarked}
use Rattle.wait_graph.proofs.Walking.{IsWalked}
use Rattle.wait_graph.proofs.walk.collect_way.Given as goal

abbrev pub invariant-loop-place : goal.invariant-loop-place
invariant-loop-place l = record {
  walked : ByLocks l.tree l.locks (λ keeps. IsWalked (edges_among l.tree keeps l.waits.waits) l.waits.waits l.marks.items l.edges.items l.txn l.place l.back);
  marks : length l.marks.items ≡ length l.waits.waits;
  marks_capacity : vec_capacity l.fn.marks ≤ vec_capacity l.marks;
  few : vec_len l.edges + unmarked l.marks.items * length l.waits.waits ≤ length l.waits.waits * length l.waits.waits;
  capacity : vec_capacity l.fn.edges ≤ vec_capacity l.edges;
}

abbrev pub decreases-loop-place : goal.decreases-loop-place
decreases-loop-place l = length l.waits.waits * length l.waits.waits - l.place
