use Rattle.std.proofs.Common.{◌≡◌, ◌≤◌, ◌+◌, length}
use Rattle.tree_pictures.specs.Waits.{last_end}
use Rattle.tree_pictures.proofs.waits.last_end.Given as goal

abbrev pub invariant-loop-rest : goal.invariant-loop-rest
invariant-loop-rest l = record { fits : l.at + length l.rest ≤ l.entry + length l.marks; same : last_end l.at l.rest l.last ≡ last_end l.entry l.marks l.fn.known }

abbrev pub decreases-loop-rest : goal.decreases-loop-rest
decreases-loop-rest l = length l.rest
