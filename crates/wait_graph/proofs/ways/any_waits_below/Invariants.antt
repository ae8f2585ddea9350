use Rattle.std.proofs.Common.{◌≡◌, false, take}
use Rattle.std.specs.List.{list_any}
use Rattle.wait_graph.specs.Edges.{is_below_it}
use Rattle.wait_graph.proofs.ways.any_waits_below.Given as goal

abbrev pub invariant-loop-place : goal.invariant-loop-place
invariant-loop-place l = list_any (is_below_it l.tree l.txn) (take l.place l.waits.waits) ≡ false
