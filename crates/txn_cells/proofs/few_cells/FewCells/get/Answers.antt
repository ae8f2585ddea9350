use Rattle.std.proofs.Common.{sym, ◌∙◌}
use Rattle.std.proofs.lemmas.Option.{get_or_from_slice_get}
use Rattle.txn_cells.proofs.Holding.{has_content, nothing_had}
use Rattle.txn_cells.proofs.Zipped.{listed}
use Rattle.txn_cells.proofs.few_cells.FewCells.get.Goals as goal

pub returns-in-Ok : goal.returns-in-Ok
returns-in-Ok g c =
    let f = c.self.inside in
    let i = c.self.invariant in
    let at = rw c.as_slice.ensures.value at c.in-Ok.ensures.there in
    rw (sym c.self.view_is)
    (sym (get_or_from_slice_get f.contents c.in-Ok.index c.at.result c.at.result c.at.ensures)
    ∙ sym (has_content f.numbers.items f.contents i.0 i.1 c.args.txn c.in-Ok.index at c.at.result))

pub returns-in-Err : goal.returns-in-Err
returns-in-Err g c =
    let f = c.self.inside in
    let absent = rw c.as_slice.ensures.value at c.in-Err.ensures.absent in
    rw (sym c.self.view_is) (sym (nothing_had _ c.args.txn (listed f.numbers.items f.contents c.self.invariant.1 c.args.txn ∙ absent)))
