use Rattle.std.proofs.Common.{sym, ◌∙◌}
use Rattle.txn_cells.proofs.Seen.{seen_nothing}
use Rattle.txn_cells.proofs.table.CellTable.is_empty.Goals as goal

pub returns : goal.returns
returns g c =
    let bare = seen_nothing c.self.inside.places c.self.inside.keys in
    rw (sym c.self.view_is) (λ e. bare.0 (sym c.is_empty.ensures ∙ e), λ e. c.is_empty.ensures ∙ bare.1 e)
