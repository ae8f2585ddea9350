use Rattle.std.proofs.Common.{◌≡◌, ◌<◌, ◌≤◌, ◌+◌, ◌-◌, ℕ, length, Some}
use Rattle.std.specs.Prelude.{slice_get}
use Rattle.wait_cycles.specs.inner.Sorted.{up_to}
use Rattle.wait_cycles.specs.Trails.{Covers, IsFound, nodes, open_pairs}
use Rattle.wait_cycles.proofs.reached.reached_from.Given as goal

-- those before this place have been gone on from
abbrev pub invariant-loop-done : goal.invariant-loop-done
invariant-loop-done l =
    IsFound (up_to l.fn.sorted l.fn.start) l.fn.start l.trail.reached
    × Covers (up_to l.fn.sorted l.fn.start) l.trail.reached l.fn.start
    × ((i a : ℕ) → i < l.done → slice_get (nodes l.trail.reached) i ≡ Some a → Covers (up_to l.fn.sorted l.fn.start) l.trail.reached a)
    × (l.done ≤ length l.trail.reached)
    × (open_pairs (up_to l.fn.sorted l.fn.start) l.trail.reached + length l.trail.reached ≤ l.trail.capacity)
    × (l.fn.trail.capacity ≤ l.trail.capacity)

abbrev pub decreases-loop-done : goal.decreases-loop-done
decreases-loop-done l = open_pairs (up_to l.fn.sorted l.fn.start) l.trail.reached + length l.trail.reached - l.done
