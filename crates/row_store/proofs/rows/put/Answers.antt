use Rattle.std.proofs.Common.{◌∙◌, subst, is_lt, arith}
use Rattle.std.proofs.lemmas.List.{length-set}
use Rattle.std.proofs.lemmas.List.Edits.{length-insert}
use Rattle.sqlite_value.specs.Order.{value_cmp}
use Rattle.sqlite_trees.specs.Tree.{rowid}
use Rattle.sqlite_trees.specs.Probe.{IsPlaceOf}
use Rattle.sqlite_trees.proofs.MemoryLemmas.{set-put_row, insert-put_row}
use Rattle.row_store.proofs.Places.{remove-insert, set-back}
use Rattle.row_store.proofs.rows.put.Goals as goal

pub returns-then-has_rowid_at-clause-ok : goal.returns-then-has_rowid_at-clause-ok
returns-then-has_rowid_at-clause-ok c =
    let place = subst (λ id. IsPlaceOf (λ e. is_lt (value_cmp (rowid e) id)) c.args.rows.now.items c.place_of_rowid-at.result) c.get.ensures c.place_of_rowid-at.ensures in
    let test = rw c.get-2.ensures at c.if-has_rowid_at.ensures in
    c.replace-old.ensures.items ∙ set-put_row c.args.new _ _ place test.0 test.1

pub returns-then-has_rowid_at-clause-undone : goal.returns-then-has_rowid_at-clause-undone
returns-then-has_rowid_at-clause-undone c =
    let test = rw c.get-2.ensures at c.if-has_rowid_at.ensures in
    record {
      fits = rw (c.replace-old.ensures.items, length-set) test.0;
      back = rw c.replace-old.ensures.items (set-back _ _ _ _ test.0 c.replace-old.ensures.member);
    }

pub returns-clause-ok : goal.returns-clause-ok
returns-clause-ok c =
    let place = subst (λ id. IsPlaceOf (λ e. is_lt (value_cmp (rowid e) id)) c.args.rows.now.items c.place_of_rowid-at.result) c.get.ensures c.place_of_rowid-at.ensures in
    let test = rw c.get-2.ensures at c.if-has_rowid_at.ensures in
    c.in_ok-insert.ensures.ok ∙ insert-put_row c.args.new _ _ place test

pub returns-clause-undone : goal.returns-clause-undone
returns-clause-undone c =
    let place = c.place_of_rowid-at.ensures in
    let more = length-insert _ c.place_of_rowid-at.result c.args.new place.within in
    record {
      fits = rw c.in_ok-insert.ensures.ok (omega (arith, place.within, more));
      back = rw c.in_ok-insert.ensures.ok (remove-insert _ _ c.args.new place.within);
    }
