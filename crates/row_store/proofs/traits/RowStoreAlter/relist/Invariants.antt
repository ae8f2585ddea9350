use Rattle.std.proofs.Common.{take}
use Rattle.sqlite_trees.specs.Objects.{Relists}
use Rattle.row_store.specs.RowView.{now, row_view, Leads}
use Rattle.row_store.proofs.traits.RowStoreAlter.relist.Given as goal

abbrev pub invariant-loop-change : goal.invariant-loop-change
invariant-loop-change l = record {
  listed : Relists (row_view l.fn.self) (row_view l.self) (take l.change-index l.changes);
  led : Leads l.fn.self l.self (now l.self);
}
