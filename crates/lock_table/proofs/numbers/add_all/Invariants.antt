use Rattle.std.proofs.Common.{take}
use Rattle.std.specs.List.Sorted.{IsStrictlyIncreasing}
use Rattle.lock_table.specs.Targeted.{IsAmong, IsJoined}
use Rattle.lock_table.proofs.numbers.add_all.Given as goal

abbrev pub invariant-loop-txn : goal.invariant-loop-txn
invariant-loop-txn l = record {
  rising : IsStrictlyIncreasing l.numbers.items;
  joined : IsJoined l.initial.numbers.items (IsAmong (take l.txn-index l.more)) l.numbers.items;
}
