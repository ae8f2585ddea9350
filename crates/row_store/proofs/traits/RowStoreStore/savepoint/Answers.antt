use Rattle.std.proofs.Common.{refl}
use Rattle.row_store.specs.RowView.{now}
use Rattle.row_store.proofs.Backs.{marked}
use Rattle.row_store.proofs.traits.RowStoreStore.savepoint.Goals as goal

pub returns-clause-ok : goal.returns-clause-ok
returns-clause-ok c _ =
    let s = c.args.self.now in
    marked (now s) s.log.items s.marks.items c.push.new.self.items s.cursors.items (rw (c.in_ok-push.ensures.items, c.len.ensures, s.log.ok.0) refl)
