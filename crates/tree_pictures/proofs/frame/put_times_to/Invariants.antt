use Rattle.std.proofs.Common.{◌≡◌, ◌++◌}
use Rattle.tree_pictures.specs.Frame.{times_to}
use Rattle.tree_pictures.proofs.frame.put_times_to.Given as goal

abbrev pub invariant-loop-tick : goal.invariant-loop-tick
invariant-loop-tick l = l.out.items ≡ l.initial.out.items ++ times_to l.scale l.tick
