use Rattle.std.proofs.Common.{◌≡◌, ◌≤◌, ◌-◌, ℕ, length, Some}
use Rattle.std.specs.Prelude.{slice_get}
use Rattle.wait_cycles.specs.inner.Sorted.{up_to}
use Rattle.wait_cycles.specs.Trails.{IsAt, IsFound, IsLonger, nodes}
use Rattle.wait_cycles.proofs.Sorted.{AreCovered}
use Rattle.wait_cycles.proofs.reached.reach_from.Given as goal

abbrev pub invariant-loop-other : goal.invariant-loop-other
invariant-loop-other l =
    ((first : ℕ) → IsFound (up_to l.fn.sorted l.fn.start) first l.initial.trail.reached
    → IsAt first (nodes l.initial.trail.reached) (length l.initial.trail.reached) l.fn.from l.fn.txn → IsFound (up_to l.fn.sorted l.fn.start) first l.trail.reached)
    × IsLonger (up_to l.fn.sorted l.fn.start) l.initial.trail.reached l.trail.reached
    × AreCovered l.fn.sorted l.fn.start l.fn.txn l.place l.trail.reached
    × ((i : ℕ) (p : ℕ × ℕ) → l.place ≤ i → slice_get l.fn.sorted i ≡ Some p → l.fn.txn ≤ p.0)
    × (l.initial.trail.capacity ≤ l.trail.capacity)

abbrev pub decreases-loop-other : goal.decreases-loop-other
decreases-loop-other l = length l.fn.sorted - l.place
