use Rattle.std.proofs.Common.{◌≡◌, ◌-◌, false, take}
use Rattle.std.specs.List.{list_any}
use Rattle.wait_graph.specs.Edges.{ByLocks, waits_by_way_of}
use Rattle.wait_graph.proofs.ways.any_edge_by_way_of.Given as goal

-- nobody before the place does
abbrev pub invariant-loop-place : goal.invariant-loop-place
invariant-loop-place l = ByLocks l.tree l.locks (λ keeps. list_any (waits_by_way_of l.tree keeps l.waits.waits l.txn l.target) (take l.place l.waits.waits) ≡ false)

abbrev pub decreases-loop-place : goal.decreases-loop-place
decreases-loop-place l = l.count - l.place
