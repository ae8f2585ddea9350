use Rattle.std.proofs.Common.{sym}
use Rattle.txn_cells.proofs.Viewed.{none_seen, some_seen}
use Rattle.txn_cells.proofs.table.CellTable.at.Goals as goal

pub returns-clause-some : goal.returns-clause-some
returns-clause-some g c =
    let t = c.self.inside in
    rw (sym c.self.view_is) (some_seen t.places t.keys c.self.invariant.0 c.args.key.now c.at.result c.at.ensures.some)

pub returns-clause-none : goal.returns-clause-none
returns-clause-none g c =
    let t = c.self.inside in
    rw (sym c.self.view_is) (none_seen t.places t.keys c.self.invariant.0 c.args.key.now c.at.result c.at.ensures.none)
