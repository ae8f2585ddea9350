use Rattle.std.proofs.Common.{◌≡◌, ◌≤◌, ◌+◌, length}
use Rattle.tree_lines.specs.Counts.{counted}
use Rattle.tree_lines.proofs.counting.counted.Given as goal

abbrev pub invariant-loop-rest : goal.invariant-loop-rest
invariant-loop-rest l = record { few : l.count + length l.rest ≤ length l.shown; all : l.count + counted l.group l.rest ≡ counted l.group l.shown }

abbrev pub decreases-loop-rest : goal.decreases-loop-rest
decreases-loop-rest l = length l.rest
