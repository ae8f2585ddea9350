use Rattle.std.proofs.Common.{◌≡◌, ◌++◌}
use Rattle.tree_lines.specs.Lines.{indent}
use Rattle.tree_lines.proofs.spelling.put_indent.Given as goal

abbrev pub invariant-loop-level : goal.invariant-loop-level
invariant-loop-level l = l.out.items ≡ l.initial.out.items ++ indent l._level
