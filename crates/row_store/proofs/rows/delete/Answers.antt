use Rattle.std.proofs.Common.{ap, ◌∙◌, to_z-of_z}
use Rattle.std.specs.List.{insert, remove}
use Rattle.row_store.proofs.Places.{place_left, insert-remove, remove-without_rowid, kept-without_rowid}
use Rattle.row_store.proofs.rows.delete.Goals as goal

pub returns-then-has_rowid_at-clause-rows : goal.returns-then-has_rowid_at-clause-rows
returns-then-has_rowid_at-clause-rows c =
    let fits = c.ranges.id in
    let here = simp to_z-of_z at c.if-has_rowid_at.ensures in
    let place = simp to_z-of_z at c.place_of_rowid-at.ensures in
    c.remove.ensures.items ∙ remove-without_rowid c.args.id _ _ c.requires.0 place here.0 here.1

pub returns-else-has_rowid_at-clause-rows : goal.returns-else-has_rowid_at-clause-rows
returns-else-has_rowid_at-clause-rows c =
    let fits = c.ranges.id in
    kept-without_rowid c.args.id _ _ c.requires.0 (simp to_z-of_z at c.place_of_rowid-at.ensures) (simp to_z-of_z at c.if-has_rowid_at.ensures)

pub returns-then-has_rowid_at-clause-undone : goal.returns-then-has_rowid_at-clause-undone
returns-then-has_rowid_at-clause-undone c =
    let fits = c.ranges.id in
    let here = simp to_z-of_z at c.if-has_rowid_at.ensures in
    let rows = c.args.rows.now.items in
    let at = c.place_of_rowid-at.result in
    record {
      fits = rw c.remove.ensures.items (place_left rows at here.0);
      back = rw c.remove.ensures.items (ap (insert (remove rows at) at) c.remove.ensures.member ∙ insert-remove rows at c.remove.result here.0);
    }
