use Rattle.std.proofs.Common.{◌≡◌, ◌↔◌, ◌-◌, length, drop}
use Rattle.txn_bytes.proofs.same.are_fronts_same.Given as goal

-- what is left is as long and ends with the same word, and it is the same exactly where the whole is
abbrev pub invariant-loop-left : goal.invariant-loop-left
invariant-loop-left l = record {
  len : length l.left ≡ length l.right;
  last : drop (length l.left - 8) l.left ≡ drop (length l.right - 8) l.right;
  same : (l.left ≡ l.right) ↔ (l.fn.ours ≡ l.fn.theirs);
}

abbrev pub decreases-loop-left : goal.decreases-loop-left
decreases-loop-left l = length l.left
