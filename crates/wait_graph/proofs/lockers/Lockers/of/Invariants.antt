use Rattle.std.proofs.Common.{◌≡◌, ◌≤◌, ◌<◌, ℕ, nat_eq, true}
use Rattle.std.specs.List.{list_any}
use Rattle.lock_table.specs.Targeted.{is_listed}
use Rattle.wait_graph.proofs.lockers.Lockers.of.Given as goal

-- whoever is in a list that was looked at is in the second
abbrev pub invariant-loop-place : goal.invariant-loop-place
invariant-loop-place l = (p : ℕ) → 1 ≤ p → p < l.place → (u : ℕ) → is_listed l.locks l.target p u ≡ true → list_any (nat_eq u) l.more ≡ true
