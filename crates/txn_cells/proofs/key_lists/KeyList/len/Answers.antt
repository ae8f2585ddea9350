use Rattle.std.proofs.Common.{sym, arith}
use Rattle.txn_cells.proofs.Holding.{length-zip}
use Rattle.txn_cells.proofs.key_lists.KeyList.len.Goals as goal

pub returns : goal.returns
returns c =
    let l = c.self.inside in
    let long = length-zip l.keys.items l.places.items c.self.invariant.1 in
    rw (sym c.self.view_is) (omega (arith, long, c.len.ensures, l.keys.ok.0))
