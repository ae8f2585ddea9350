use Rattle.std.proofs.Common.{◌≤◌, ◌*◌, length, take}
use Rattle.std.specs.Prelude.{vec_len, vec_capacity}
use Rattle.wait_graph.specs.Edges.{AreAlike, ByLocks, edges_of}
use Rattle.wait_graph.proofs.edges.collect_edges.Given as goal

abbrev pub invariant-loop-place : goal.invariant-loop-place
invariant-loop-place l =
    ByLocks l.tree l.locks (λ keeps. AreAlike l.edges.items (edges_of l.tree keeps (take l.place l.waits.waits) l.waits.waits))
    × (vec_len l.edges ≤ l.place * length l.waits.waits)
    × (vec_capacity l.initial.edges ≤ vec_capacity l.edges)
