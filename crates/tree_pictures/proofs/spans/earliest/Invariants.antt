use Rattle.std.proofs.Common.{◌≡◌, length}
use Rattle.tree_pictures.specs.Bars.{earliest}
use Rattle.tree_pictures.proofs.spans.earliest.Given as goal

abbrev pub invariant-loop-rest : goal.invariant-loop-rest
invariant-loop-rest l = earliest l.least l.rest ≡ earliest l.entry l.shown

abbrev pub decreases-loop-rest : goal.decreases-loop-rest
decreases-loop-rest l = length l.rest
