use Rattle.std.proofs.Common.{ap, sym, ◌∙◌}
use Rattle.std.specs.List.{list_any}
use Rattle.txn_names.specs.Path.{label_eq}
use Rattle.txn_cells.proofs.Seen.{seen_place}
use Rattle.txn_cells.proofs.table.CellTable.keys.Goals as goal

pub returns-clause-each : goal.returns-clause-each
returns-clause-each g c =
    let i = c.self.invariant.0 in
    rw (sym c.self.view_is) (λ q. seen_place c.self.inside.places c.self.inside.keys i c.args.txn q ∙ i c.args.txn q ∙ ap (list_any (label_eq q)) (sym c.keys.ensures.same))
