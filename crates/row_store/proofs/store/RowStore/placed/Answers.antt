use Rattle.std.proofs.Common.{◌≡◌, arith}
use Rattle.std.proofs.lemmas.Grind.{common_steps}
use Rattle.sqlite_trees.proofs.TreeLemmas.{sorted_shape}
use Rattle.sqlite_trees.proofs.MemoryLemmas as lemma
use Rattle.row_store.specs.RowView.{now, rows_in}
use Rattle.row_store.proofs.Kept.{shaped_in}
use Rattle.row_store.proofs.store.RowStore.placed.Goals as goal

pub place-at-requires : goal.place-at-requires
place-at-requires c =
    let tree : rows_in (now c.args.self.now).rows c.args.tree ≡ c.in-Some.rows.now.items = grind (arith, common_steps, c.in-Some.ensures.lookup) in
    rw (c.order-order.ensures, c.shape_at.ensures) (lemma.cut_below_key _ _ _ (sorted_shape _ _ (rw tree at (shaped_in c.args.self.now c.args.tree))))

pub place_up_to_key-at-requires : goal.place_up_to_key-at-requires
place_up_to_key-at-requires c =
    let tree : rows_in (now c.args.self.now).rows c.args.tree ≡ c.in-Some.rows.now.items = grind (arith, common_steps, c.in-Some.ensures.lookup) in
    rw (c.order-order.ensures, c.shape_at.ensures) (lemma.cut_up_to_key _ _ _ (sorted_shape _ _ (rw tree at (shaped_in c.args.self.now c.args.tree))))

pub returns-in-Forward : goal.returns-in-Forward
returns-in-Forward c =
    let tree : rows_in (now c.args.self.now).rows c.args.tree ≡ c.in-Some.rows.now.items = grind (arith, common_steps, c.in-Some.ensures.lookup) in
    rw (c.in-Forward.is, tree, ← c.shape_at.ensures, ← c.order-order.ensures) (lemma.drop-from_key _ _ _ _ c.place-at.ensures)

pub returns-in-Backward : goal.returns-in-Backward
returns-in-Backward c =
    let tree : rows_in (now c.args.self.now).rows c.args.tree ≡ c.in-Some.rows.now.items = grind (arith, common_steps, c.in-Some.ensures.lookup) in
    rw (c.in-Backward.is, tree, ← c.shape_at.ensures, ← c.order-order.ensures, lemma.take-up_to_key _ _ _ _ c.place_up_to_key-at.ensures)
