use Rattle.std.specs.List.Sorted.{IsStrictlyIncreasing}
use Rattle.lock_table.specs.Targeted.{IsJoined}
use Rattle.lock_table.proofs.Summers.{BlocksBelow}
use Rattle.lock_table.proofs.groups.add_summers.Given as goal

abbrev pub invariant-loop-place : goal.invariant-loop-place
invariant-loop-place l = record {
  rising : IsStrictlyIncreasing l.found.items;
  joined : IsJoined l.initial.found.items (BlocksBelow l.tree l.sums l.txn l.key l.place) l.found.items;
}
