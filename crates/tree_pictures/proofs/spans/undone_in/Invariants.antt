use Rattle.std.proofs.Common.{◌≡◌, ◌≤◌, ◌+◌, length}
use Rattle.tree_pictures.specs.Bars.{undone_in}
use Rattle.tree_pictures.proofs.spans.undone_in.Given as goal

abbrev pub invariant-loop-rest : goal.invariant-loop-rest
invariant-loop-rest l = record { few : l.count + length l.rest ≤ length l.shown; all : l.count + undone_in l.rest ≡ undone_in l.shown }

abbrev pub decreases-loop-rest : goal.decreases-loop-rest
decreases-loop-rest l = length l.rest
