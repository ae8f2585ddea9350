use Rattle.std.proofs.Common.{◌≡◌, length}
use Rattle.std.specs.Ordering.{nat_cmp}
use Rattle.std.specs.Cmp.Lexicographic.{slice_cmp}
use Rattle.txn_bytes.proofs.texts.compare_texts.Given as goal

-- what is left compares as the whole does
abbrev pub invariant-loop-word : goal.invariant-loop-word
invariant-loop-word l = slice_cmp nat_cmp l.left l.right ≡ slice_cmp nat_cmp l.fn.ours l.fn.theirs

abbrev pub decreases-loop-word : goal.decreases-loop-word
decreases-loop-word l = length l.left
