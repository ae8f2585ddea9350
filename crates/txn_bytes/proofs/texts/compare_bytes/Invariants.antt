use Rattle.std.proofs.Common.{◌≡◌, length}
use Rattle.std.specs.Ordering.{nat_cmp}
use Rattle.std.specs.Cmp.Lexicographic.{slice_cmp}
use Rattle.txn_bytes.proofs.texts.compare_bytes.Given as goal

-- what is left compares as the whole does
abbrev pub invariant-loop-left : goal.invariant-loop-left
invariant-loop-left l = slice_cmp nat_cmp l.left l.right ≡ slice_cmp nat_cmp l.fn.ours l.fn.theirs

abbrev pub decreases-loop-left : goal.decreases-loop-left
decreases-loop-left l = length l.left
