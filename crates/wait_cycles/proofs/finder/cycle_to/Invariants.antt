use Rattle.std.proofs.Common.{reverse}
use Rattle.wait_cycles.specs.Cycles.{Pairs}
use Rattle.wait_cycles.specs.Trails.{IsFound}
use Rattle.wait_cycles.proofs.Ways.{IsWay, height, IsWithin}
use Rattle.wait_cycles.proofs.finder.cycle_to.Given as goal

abbrev pub invariant-loop-before : goal.invariant-loop-before
invariant-loop-before l =
    IsWithin l.trail.reached l.before
    × ((pairs : Pairs) → IsFound pairs l.start l.trail.reached → IsWay pairs l.start l.trail.reached l.fn.place l.before (reverse l.members.items))

abbrev pub decreases-loop-before : goal.decreases-loop-before
decreases-loop-before l = height l.before
