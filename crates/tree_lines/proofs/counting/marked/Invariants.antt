use Rattle.std.proofs.Common.{◌≡◌, ◌≤◌, ◌+◌, length}
use Rattle.tree_lines.specs.Counts.{marked}
use Rattle.tree_lines.proofs.counting.marked.Given as goal

abbrev pub invariant-loop-rest : goal.invariant-loop-rest
invariant-loop-rest l = record { few : l.count + length l.rest ≤ length l.marks; all : l.count + marked l.kind l.rest ≡ marked l.kind l.marks }

abbrev pub decreases-loop-rest : goal.decreases-loop-rest
decreases-loop-rest l = length l.rest
