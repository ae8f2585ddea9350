use Rattle.std.proofs.Common.{◌≡◌, ◌≤◌, length, take}
use Rattle.txn_names.specs.Reading.{pieces}
use Rattle.txn_names.proofs.name.front_end.Given as goal

abbrev pub invariant-loop-left : goal.invariant-loop-left
invariant-loop-left l = record {
  within : l.end ≤ length l.bytes;
  many : length (pieces (take l.end l.bytes)) ≡ l.left;
  least : l.depth ≤ l.left;
  front : l.left ≡ l.depth → pieces (take l.end l.bytes) ≡ take l.depth (pieces l.bytes);
}

abbrev pub decreases-loop-left : goal.decreases-loop-left
decreases-loop-left l = l.end
