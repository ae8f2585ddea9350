use Rattle.std.proofs.Common.{ap, sym, ◌∙◌, subst, ◌≡◌}
use Rattle.sqlite_trees.specs.View.{IsShaped}
use Rattle.row_store.specs.RowView.{now, rows_in}
use Rattle.row_store.proofs.Kept.{shaped_in}
use Rattle.row_store.proofs.store.RowStore.relist_one.Goals as goal

pub relabel-requires : goal.relabel-requires
relabel-requires c low =
    let shape : c.in_ok-head.head.shape ≡ c.args.change.now.1.shape = ap (λ h. h.0) c.in_ok-head.ensures in
    subst (λ it. IsShaped it (rows_in (now c.args.self.now).rows c.args.change.now.0)) (c.requires ∙ sym shape) (shaped_in c.args.self.now c.args.change.now.0)
