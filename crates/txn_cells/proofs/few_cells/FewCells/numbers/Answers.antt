use Rattle.std.proofs.Common.{sym, ◌∙◌}
use Rattle.std.proofs.lemmas.Map.Made.{keys_of-zip}
use Rattle.txn_cells.proofs.few_cells.FewCells.numbers.Goals as goal

pub returns-clause-is : goal.returns-clause-is
returns-clause-is g c =
    let f = c.self.inside in
    rw (sym c.self.view_is) (c.as_slice.ensures.value ∙ sym (keys_of-zip f.numbers.items f.contents c.self.invariant.1))
