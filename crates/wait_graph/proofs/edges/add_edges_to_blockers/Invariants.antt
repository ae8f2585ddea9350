use Rattle.std.proofs.Common.{◌≤◌, ◌+◌, ◌&&◌, take, is_some}
use Rattle.std.specs.Prelude.{vec_len, vec_capacity}
use Rattle.wait_cycles.specs.Waiting.{wait_of}
use Rattle.wait_graph.specs.Edges.{ByLocks, is_held_up}
use Rattle.wait_graph.proofs.Alike.{MadeBy}
use Rattle.wait_graph.specs.Walks.{IsLonger}
use Rattle.wait_graph.proofs.edges.add_edges_to_blockers.Given as goal

abbrev pub invariant-loop-place : goal.invariant-loop-place
invariant-loop-place l =
    ByLocks l.tree l.locks (λ keeps. MadeBy (λ b. is_some (wait_of l.waits b) && is_held_up l.tree keeps l.wait b b) l.initial.edges.items l.edges.items l.wait.txn (take l.place l.blockers))
    × (vec_len l.edges ≤ vec_len l.initial.edges + l.place)
    × (vec_capacity l.initial.edges ≤ vec_capacity l.edges)
    × IsLonger l.initial.edges.items l.edges.items
