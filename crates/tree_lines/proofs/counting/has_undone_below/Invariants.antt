use Rattle.std.proofs.Common.{◌≡◌, length}
use Rattle.tree_lines.specs.Counts.{has_undone_below}
use Rattle.tree_lines.proofs.counting.has_undone_below.Given as goal

abbrev pub invariant-loop-rest : goal.invariant-loop-rest
invariant-loop-rest l = has_undone_below l.level l.rest ≡ has_undone_below l.level l.behind

abbrev pub decreases-loop-rest : goal.decreases-loop-rest
decreases-loop-rest l = length l.rest
