use Rattle.std.proofs.Common.{◌≤◌, drop, length, length-drop, refl, sym, arith}
use Rattle.txn_cells.proofs.Fronts.{insert_past}
use Rattle.txn_cells.proofs.many_numbers.ManyNumbers.insert.Goals as goal

pub returns-clause-ok : goal.returns-clause-ok
returns-clause-ok c =
    let n = c.self.inside in
    let asked : c.args.place ≤ length (drop n.front n.items.items) = rw (sym c.self.view_is) at c.requires in
    let long = length-drop n.front n.items.items in
    let items = rw (c.unwrap.ensures, c.reserve.ensures.items) at c.insert.ensures.items in
    rw (sym c.self.view_is, items) (insert_past n.front n.items.items c.args.place _ c.args.txn refl (omega (arith, asked, long, c.self.invariant)))
