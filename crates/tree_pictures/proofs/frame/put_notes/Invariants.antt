use Rattle.std.proofs.Common.{◌≡◌, ◌++◌, length}
use Rattle.line_language.specs.Words.{cut_at}
use Rattle.tree_pictures.specs.Frame.{notes}
use Rattle.tree_pictures.proofs.frame.put_notes.Given as goal

abbrev pub invariant-notes : goal.invariant-notes
invariant-notes l = l.out.items ++ notes l.at (cut_at 10 l.rest) ≡ l.initial.out.items ++ notes l.y (cut_at 10 l.text)

abbrev pub decreases-notes : goal.decreases-notes
decreases-notes l = length l.rest
