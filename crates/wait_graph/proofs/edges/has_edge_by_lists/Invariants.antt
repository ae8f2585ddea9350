use Rattle.std.proofs.Common.{◌≡◌, ◌<◌, ℕ, true, false}
use Rattle.lock_table.specs.Targeted.{is_listed}
use Rattle.wait_graph.specs.Edges.{ByLocks, is_held_up}
use Rattle.wait_graph.proofs.edges.has_edge_by_lists.Given as goal

-- nobody in the lists that were looked at holds it up
abbrev pub invariant-loop-place : goal.invariant-loop-place
invariant-loop-place l = ByLocks l.tree l.locks (λ keeps. (p : ℕ) → p < l.place → (v : ℕ) → is_listed l.locks l.target p v ≡ true → is_held_up l.tree keeps l.wait l.other v ≡ false)
