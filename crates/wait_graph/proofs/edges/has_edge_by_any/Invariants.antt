use Rattle.std.proofs.Common.{◌≡◌, false, take}
use Rattle.std.specs.List.{list_any}
use Rattle.wait_graph.specs.Edges.{ByLocks, is_held_up}
use Rattle.wait_graph.proofs.edges.has_edge_by_any.Given as goal

-- none of those that were looked at holds it up
abbrev pub invariant-loop-place : goal.invariant-loop-place
invariant-loop-place l = ByLocks l.tree l.locks (λ keeps. list_any (is_held_up l.tree keeps l.wait l.other) (take l.place l.holders) ≡ false)
