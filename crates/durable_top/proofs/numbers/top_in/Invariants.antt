use Rattle.std.proofs.Common.{◌≡◌, ◌⊎◌, pos, ◌≤ℤ◌, ℕ, List, Some, take}
use Rattle.std.specs.List.{AllByRecursion}
use Rattle.serial_spec.specs.Rows.{value_in}
use Rattle.durable_top.proofs.numbers.top_in.Given as goal

abbrev pub invariant-loop-place : goal.invariant-loop-place
invariant-loop-place l = record {
  least : pos 0 ≤ℤ l.top;
  bounds : AllByRecursion (λ r. r.1 ≤ℤ l.top) (take l.place l.numbers.entries);
  met : (l.top ≡ pos 0) ⊎ ((k : List ℕ) × (value_in l.numbers.entries k ≡ Some l.top));
}
