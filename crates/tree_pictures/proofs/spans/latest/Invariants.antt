use Rattle.std.proofs.Common.{◌≡◌, length}
use Rattle.tree_pictures.specs.Bars.{latest}
use Rattle.tree_pictures.proofs.spans.latest.Given as goal

abbrev pub invariant-loop-rest : goal.invariant-loop-rest
invariant-loop-rest l = latest l.entries l.most l.rest ≡ latest l.entries l.entry l.shown

abbrev pub decreases-loop-rest : goal.decreases-loop-rest
decreases-loop-rest l = length l.rest
