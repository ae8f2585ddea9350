use Rattle.std.proofs.Common.{sym, ◌∙◌}
use Rattle.txn_cells.proofs.Holding.{nothing_had, out_already, taken_cell}
use Rattle.txn_cells.proofs.Zipped.{listed}
use Rattle.txn_cells.proofs.few_cells.FewCells.remove.Goals as goal

pub returns-in-Ok-clause-changed : goal.returns-in-Ok-clause-changed
returns-in-Ok-clause-changed g c =
    let f = c.self.inside in
    let i = c.self.invariant in
    let at = rw c.as_slice.ensures.value at c.in-Ok.ensures.there in
    rw (sym c.self.view_is, c.remove.ensures.items, c.remove-in-Ok.ensures.left) (taken_cell f.numbers.items f.contents i.0 i.1 c.args.txn c.in-Ok.index at)

pub returns-in-Err-clause-had : goal.returns-in-Err-clause-had
returns-in-Err-clause-had g c =
    let f = c.self.inside in
    let absent = rw c.as_slice.ensures.value at c.in-Err.ensures.absent in
    let fresh = listed f.numbers.items f.contents c.self.invariant.1 c.args.txn ∙ absent in
    rw (sym c.self.view_is) (sym (nothing_had _ c.args.txn fresh))

pub returns-in-Err-clause-changed : goal.returns-in-Err-clause-changed
returns-in-Err-clause-changed g c =
    let f = c.self.inside in
    let absent = rw c.as_slice.ensures.value at c.in-Err.ensures.absent in
    let fresh = listed f.numbers.items f.contents c.self.invariant.1 c.args.txn ∙ absent in
    rw (sym c.self.view_is) (out_already _ c.args.txn fresh)
