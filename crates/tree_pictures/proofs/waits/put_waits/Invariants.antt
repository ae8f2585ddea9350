use Rattle.std.proofs.Common.{◌≡◌, ◌++◌, length}
use Rattle.tree_pictures.specs.Waits.{wait_rows}
use Rattle.tree_pictures.proofs.waits.put_waits.Given as goal

abbrev pub invariant-loop-rest : goal.invariant-loop-rest
invariant-loop-rest l = l.out.items ++ wait_rows l.scale l.marks l.shown l.rest ≡ l.initial.out.items ++ wait_rows l.scale l.marks l.shown l.waits

abbrev pub decreases-loop-rest : goal.decreases-loop-rest
decreases-loop-rest l = length l.rest
