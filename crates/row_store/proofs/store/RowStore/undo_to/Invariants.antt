use Rattle.std.proofs.Common.{◌≡◌, ◌-◌, ◌<◌, ◌≤◌, length, take, drop, vec_len}
use Rattle.row_store.specs.Path.{undone}
use Rattle.row_store.specs.RowView.{now}
use Rattle.row_store.proofs.store.RowStore.undo_to.Given as goal

abbrev pub invariant-loop-self : goal.invariant-loop-self
invariant-loop-self l = record {
  log : l.self.log.items ≡ take (length l.self.log.items) l.fn.self.log.items;
  most : length l.self.log.items ≤ length l.fn.self.log.items;
  least : length l.self.log.items < l.kept → length l.fn.self.log.items ≤ length l.self.log.items;
  state : now l.self ≡ undone (drop (length l.self.log.items) l.fn.self.log.items) (now l.fn.self);
  marks : l.self.marks ≡ l.fn.self.marks;
}

abbrev pub decreases-loop-self : goal.decreases-loop-self
decreases-loop-self l = vec_len l.self.log - l.kept
