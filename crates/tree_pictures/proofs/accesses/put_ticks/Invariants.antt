use Rattle.std.proofs.Common.{◌≡◌, ◌≤◌, ◌+◌, ◌++◌, length}
use Rattle.tree_pictures.specs.Marks.{ticks}
use Rattle.tree_pictures.proofs.accesses.put_ticks.Given as goal

abbrev pub invariant-loop-rest : goal.invariant-loop-rest
invariant-loop-rest l = record { fits : l.at + length l.rest ≤ l.entry + length l.marks; all : l.out.items ++ ticks l.scale l.shown l.at l.rest ≡ l.initial.out.items ++ ticks l.scale l.shown l.entry l.marks }

abbrev pub decreases-loop-rest : goal.decreases-loop-rest
decreases-loop-rest l = length l.rest
