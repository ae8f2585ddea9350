use Rattle.std.proofs.Common.{◌∙◌, arith}
use Rattle.std.proofs.lemmas.List.Edits.{length-insert}
use Rattle.sqlite_trees.proofs.MemoryLemmas.{cut_below_entry, kept-insert_entry, insert-insert_entry}
use Rattle.row_store.proofs.Places.{remove-insert}
use Rattle.row_store.proofs.rows.insert.Goals as goal

pub place-at-requires : goal.place-at-requires
place-at-requires c = cut_below_entry c.args.order _ _ c.requires

pub returns-then-has_entry_at-clause-ok : goal.returns-then-has_entry_at-clause-ok
returns-then-has_entry_at-clause-ok c =
    let place = c.place-at.ensures in
    let test = c.if-has_entry_at.ensures in
    kept-insert_entry c.args.order c.args.new _ _ place test.0 test.1

pub returns-clause-ok : goal.returns-clause-ok
returns-clause-ok c =
    let place = c.place-at.ensures in
    let test = c.if-has_entry_at.ensures in
    c.in_ok-insert.ensures.ok ∙ insert-insert_entry c.args.order c.args.new _ _ place test

pub returns-clause-undone : goal.returns-clause-undone
returns-clause-undone c =
    let place = c.place-at.ensures in
    let more = length-insert _ c.place-at.result c.args.new place.within in
    record {
      fits = rw c.in_ok-insert.ensures.ok (omega (arith, place.within, more));
      back = rw c.in_ok-insert.ensures.ok (remove-insert _ _ c.args.new place.within);
    }
