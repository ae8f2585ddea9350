use Rattle.std.proofs.Common.{sym}
use Rattle.txn_cells.proofs.Viewed.{none_seen, some_seen}
use Rattle.txn_cells.proofs.table.CellTable.at_listed.Goals as goal

pub returns-in-Some-clause-some : goal.returns-in-Some-clause-some
returns-in-Some-clause-some g c =
    let t = c.self.inside in
    rw (sym c.self.view_is) (some_seen t.places t.keys c.self.invariant.0 c.args.key.now c.near.result c.near.ensures.some)

pub returns-in-Some-clause-none : goal.returns-in-Some-clause-none
returns-in-Some-clause-none g c =
    let t = c.self.inside in
    rw (sym c.self.view_is) (none_seen t.places t.keys c.self.invariant.0 c.args.key.now c.near.result c.near.ensures.none)

pub returns-in-None-clause-some : goal.returns-in-None-clause-some
returns-in-None-clause-some g c =
    let t = c.self.inside in
    rw (sym c.self.view_is) (some_seen t.places t.keys c.self.invariant.0 c.args.key.now c.at.result c.at.ensures.some)

pub returns-in-None-clause-none : goal.returns-in-None-clause-none
returns-in-None-clause-none g c =
    let t = c.self.inside in
    rw (sym c.self.view_is) (none_seen t.places t.keys c.self.invariant.0 c.args.key.now c.at.result c.at.ensures.none)
