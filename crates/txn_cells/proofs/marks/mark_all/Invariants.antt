use Rattle.std.proofs.Common.{◌≡◌, ◌<◌, filter, length, take, vec_capacity}
use Rattle.txn_cells.specs.Kept.{content_of, stands}
use Rattle.txn_cells.proofs.marks.mark_all.Given as goal

abbrev pub invariant-loop-txn : goal.invariant-loop-txn
invariant-loop-txn g l = record {
  marks : l.marked.items ≡ filter (λ u. stands g.V.Inherit.outstanding (content_of l.cells u)) (take l.txn-index l.numbers);
  room : length l.numbers < vec_capacity l.marked;
}
