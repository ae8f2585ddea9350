use Rattle.std.proofs.Common.{◌≡◌, ◌≤◌, length}
use Rattle.std.specs.Prelude.{IfSome, vec_capacity}
use Rattle.wait_cycles.specs.inner.Sorted.{AreRising, IsNoGreatest}
use Rattle.wait_cycles.proofs.Sorted.{AreLeft}
use Rattle.wait_cycles.proofs.finder.last_start.Given as goal

abbrev pub invariant-loop-start : goal.invariant-loop-start
invariant-loop-start l =
    AreRising l.starts.items
    × AreLeft l.fn.sorted l.starts.items
    × IfSome l.tried (λ t. IsNoGreatest l.fn.sorted t)
    × (vec_capacity l.starts ≡ vec_capacity l.fn.starts)
    × (l.fn.trail.capacity ≤ l.trail.capacity)

abbrev pub decreases-loop-start : goal.decreases-loop-start
decreases-loop-start l = length l.starts.items
