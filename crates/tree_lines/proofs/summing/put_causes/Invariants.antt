use Rattle.std.proofs.Common.{◌≡◌, ◌++◌, length}
use Rattle.tree_lines.specs.Shows.{refused_by}
use Rattle.tree_lines.proofs.summing.put_causes.Given as goal

abbrev pub invariant-loop-rest : goal.invariant-loop-rest
invariant-loop-rest l = l.out.items ++ refused_by l.rest l.marks ≡ l.initial.out.items ++ refused_by l.causes l.marks

abbrev pub decreases-loop-rest : goal.decreases-loop-rest
decreases-loop-rest l = length l.rest
