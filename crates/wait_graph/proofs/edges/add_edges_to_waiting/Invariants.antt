use Rattle.std.proofs.Common.{◌≡◌, ◌≤◌, ◌+◌, ◌++◌, take}
use Rattle.std.specs.Prelude.{vec_len, vec_capacity}
use Rattle.wait_graph.specs.Edges.{ByLocks, edges_from}
use Rattle.wait_graph.specs.Walks.{IsLonger}
use Rattle.wait_graph.proofs.edges.add_edges_to_waiting.Given as goal

abbrev pub invariant-loop-place : goal.invariant-loop-place
invariant-loop-place l =
    ByLocks l.tree l.locks (λ keeps. l.edges.items ≡ l.initial.edges.items ++ edges_from l.tree keeps (take l.place l.waits.waits) l.wait)
    × (vec_len l.edges ≤ vec_len l.initial.edges + l.place)
    × (vec_capacity l.initial.edges ≤ vec_capacity l.edges)
    × IsLonger l.initial.edges.items l.edges.items
