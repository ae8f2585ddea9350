use Rattle.std.proofs.Common.{take}
use Rattle.inherit.specs.Changes.{writes}
use Rattle.inherit.proofs.Collected.{AreWritten}
use Rattle.inherit.proofs.estate.Estate.written_keys.Given as goal

abbrev pub invariant-loop-index : goal.invariant-loop-index
invariant-loop-index l = AreWritten (writes l.self l.txn) (take l.index l.reserved) l.written.keys
