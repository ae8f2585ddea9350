use Rattle.std.proofs.Common.{◌≡◌, length}
use Rattle.tree_lines.specs.Counts.{follows, next_beside}
use Rattle.tree_lines.proofs.counting.is_followed.Given as goal

abbrev pub invariant-loop-rest : goal.invariant-loop-rest
invariant-loop-rest l = follows l.before (next_beside l.before.level l.rest) ≡ follows l.before (next_beside l.before.level l.behind)

abbrev pub decreases-loop-rest : goal.decreases-loop-rest
decreases-loop-rest l = length l.rest
