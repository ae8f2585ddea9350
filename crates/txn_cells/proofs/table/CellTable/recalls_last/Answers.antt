use Rattle.std.proofs.Common.{sym, ◌∙◌}
use Rattle.txn_cells.specs.Kept.{listed_at}
use Rattle.txn_cells.proofs.Lists.{any_listed}
use Rattle.txn_cells.proofs.Seen.{seen_place}
use Rattle.txn_cells.proofs.table.CellTable.recalls_last.Goals as goal

pub returns-in-Some-clause-place : goal.returns-in-Some-clause-place
returns-in-Some-clause-place g c =
    let i = c.self.invariant.0 in
    let inside = c.self.inside in
    let at = c.in-Some.ensures in
    rw (sym c.self.view_is) (λ _. seen_place inside.places inside.keys i c.args.txn c.args.key.now ∙ i c.args.txn c.args.key.now
    ∙ any_listed c.args.key.now c.in-Some.place at.0 (listed_at inside.keys c.args.txn) at.1)
