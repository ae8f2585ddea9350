use Rattle.std.proofs.Common.{ap, ◌∙◌}
use Rattle.sqlite_trees.proofs.MemoryLemmas.{cut_below_entry}
use Rattle.std.specs.List.{insert, remove}
use Rattle.row_store.proofs.Places.{place_left, insert-remove, remove-remove_entry, kept-remove_entry}
use Rattle.row_store.proofs.rows.remove.Goals as goal

pub place-at-requires : goal.place-at-requires
place-at-requires c = cut_below_entry c.args.order _ _ c.requires

pub returns-then-has_entry_at-clause-rows : goal.returns-then-has_entry_at-clause-rows
returns-then-has_entry_at-clause-rows c =
    let here = c.if-has_entry_at.ensures in
    let place = c.place-at.ensures in
    c.remove.ensures.items ∙ remove-remove_entry c.args.order c.args.entry.now _ _ c.requires place here.0 here.1

pub returns-else-has_entry_at-clause-rows : goal.returns-else-has_entry_at-clause-rows
returns-else-has_entry_at-clause-rows c =
    kept-remove_entry c.args.order c.args.entry.now _ _ c.requires c.place-at.ensures c.if-has_entry_at.ensures

pub returns-then-has_entry_at-clause-undone : goal.returns-then-has_entry_at-clause-undone
returns-then-has_entry_at-clause-undone c =
    let here = c.if-has_entry_at.ensures in
    let rows = c.args.rows.now.items in
    let at = c.place-at.result in
    record {
      fits = rw c.remove.ensures.items (place_left rows at here.0);
      back = rw c.remove.ensures.items (ap (insert (remove rows at) at) c.remove.ensures.member ∙ insert-remove rows at c.remove.result here.0);
    }
