use Rattle.std.proofs.Common.{◌≡◌, ◌≤◌, ◌<◌, ℕ, false}
use Rattle.lock_table.specs.Targeted.{is_listed}
use Rattle.wait_graph.proofs.edges.sole_blockers.Given as goal

-- nobody is in the lists that were looked at
abbrev pub invariant-loop-place : goal.invariant-loop-place
invariant-loop-place l = (p : ℕ) → 1 ≤ p → p < l.place → (u : ℕ) → is_listed l.locks l.target p u ≡ false
