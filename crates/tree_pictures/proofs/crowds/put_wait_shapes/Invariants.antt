use Rattle.std.proofs.Common.{◌≡◌, ◌++◌, length}
use Rattle.std.specs.List.{flat_map}
use Rattle.tree_pictures.specs.Waits.{wait_shape_in}
use Rattle.tree_pictures.proofs.crowds.put_wait_shapes.Given as goal

abbrev pub invariant-loop-rest : goal.invariant-loop-rest
invariant-loop-rest l = l.out.items ++ flat_map (wait_shape_in l.scale l.shown) l.rest ≡ l.initial.out.items ++ flat_map (wait_shape_in l.scale l.shown) l.waits

abbrev pub decreases-loop-rest : goal.decreases-loop-rest
decreases-loop-rest l = length l.rest
