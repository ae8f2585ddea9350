use Rattle.std.proofs.Common.{◌≡◌, ◌≤◌, ◌<◌, ℕ, length, Some, true}
use Rattle.std.specs.Prelude.{slice_get, vec_capacity}
use Rattle.wait_cycles.specs.Cycles.{is_member}
use Rattle.wait_cycles.proofs.order.list_starts.Given as goal

abbrev pub invariant-loop-pair : goal.invariant-loop-pair
invariant-loop-pair l =
    (length l.starts.items ≤ l.pair-index)
    × ((i : ℕ) (p : ℕ × ℕ) → i < l.pair-index → slice_get l.pairs i ≡ Some p → p.0 ≤ p.1 → is_member p.1 l.starts.items ≡ true)
    × (vec_capacity l.starts ≡ vec_capacity l.fn.starts)
