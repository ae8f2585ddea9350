use Rattle.std.proofs.Common.{◌≡◌, ◌+◌, ◌<◌, length, take}
use Rattle.indexmap.specs.IndexMap.{spare}
use Rattle.txn_cells.proofs.many_cells.take_over.Given as goal

abbrev pub invariant-loop-txn : goal.invariant-loop-txn
invariant-loop-txn g l = record {
  entries : l.contents.entries ≡ take l.txn-index l.few;
  room : length l.few < spare l.contents + l.txn-index;
}
