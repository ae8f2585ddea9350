use Rattle.std.proofs.Common.{ap, slice_get, sym, ◌∙◌}
use Rattle.std.proofs.lemmas.Map.Made.{keys_of-zip}
use Rattle.std.proofs.lemmas.Option.{get_or_from_slice_get}
use Rattle.txn_cells.proofs.Holding.{has_content}
use Rattle.txn_cells.proofs.Zipped.{listed}
use Rattle.txn_cells.proofs.few_cells.FewCells.found.Goals as goal

pub returns-in-Ok-clause-at : goal.returns-in-Ok-clause-at
returns-in-Ok-clause-at g c =
    let f = c.self.inside in
    let i = c.self.invariant in
    let at = rw c.as_slice.ensures.value at c.in-Ok.ensures.there in
    rw (sym c.self.view_is) (ap (λ ns. slice_get ns c.in-Ok.index) (keys_of-zip f.numbers.items f.contents i.1) ∙ at)

pub returns-in-Ok-clause-had : goal.returns-in-Ok-clause-had
returns-in-Ok-clause-had g c =
    let f = c.self.inside in
    let i = c.self.invariant in
    let at = rw c.as_slice.ensures.value at c.in-Ok.ensures.there in
    rw (sym c.self.view_is)
    (sym (get_or_from_slice_get f.contents c.in-Ok.index c.at.result c.at.result c.at.ensures)
    ∙ sym (has_content f.numbers.items f.contents i.0 i.1 c.args.txn c.in-Ok.index at c.at.result))

pub returns-in-Err-clause-none : goal.returns-in-Err-clause-none
returns-in-Err-clause-none g c =
    let f = c.self.inside in
    let absent = rw c.as_slice.ensures.value at c.in-Err.ensures.absent in
    rw (sym c.self.view_is) (listed f.numbers.items f.contents c.self.invariant.1 c.args.txn ∙ absent)
