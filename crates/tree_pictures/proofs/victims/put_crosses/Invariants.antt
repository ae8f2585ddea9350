use Rattle.std.proofs.Common.{◌≡◌, ◌≤◌, ◌+◌, ◌++◌, length}
use Rattle.tree_pictures.specs.Marks.{crosses}
use Rattle.tree_pictures.proofs.victims.put_crosses.Given as goal

abbrev pub invariant-loop-rest : goal.invariant-loop-rest
invariant-loop-rest l = record { fits : l.at + length l.rest ≤ l.row + length l.shown; all : l.out.items ++ crosses l.scale l.waits l.at l.rest ≡ l.initial.out.items ++ crosses l.scale l.waits l.row l.shown }

abbrev pub decreases-loop-rest : goal.decreases-loop-rest
decreases-loop-rest l = length l.rest
