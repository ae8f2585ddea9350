use Rattle.std.proofs.Common.{◌≡◌, length}
use Rattle.line_language.specs.Words.{cut_at}
use Rattle.tree_lines.specs.Lines.{last_part}
use Rattle.tree_lines.proofs.naming.behind_slashes.Given as goal

abbrev pub invariant-parts : goal.invariant-parts
invariant-parts l = last_part (cut_at 47 l.rest) ≡ last_part (cut_at 47 l.bytes)

abbrev pub decreases-parts : goal.decreases-parts
decreases-parts l = length l.rest
