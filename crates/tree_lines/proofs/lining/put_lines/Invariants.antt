use Rattle.std.proofs.Common.{◌≡◌, ◌++◌, length}
use Rattle.tree_lines.specs.Shows.{shown_lines}
use Rattle.tree_lines.proofs.lining.put_lines.Given as goal

abbrev pub invariant-loop-rest : goal.invariant-loop-rest
invariant-loop-rest l = l.out.items ++ shown_lines l.choice l.names.keys l.rest ≡ l.initial.out.items ++ shown_lines l.choice l.names.keys l.shown

abbrev pub decreases-loop-rest : goal.decreases-loop-rest
decreases-loop-rest l = length l.rest
