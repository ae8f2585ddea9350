use Rattle.std.proofs.Common.{sym, ◌∙◌}
use Rattle.txn_cells.proofs.Holding.{length-zip}
use Rattle.txn_cells.proofs.few_cells.FewCells.len.Goals as goal

pub returns-clause-is : goal.returns-clause-is
returns-clause-is g c =
    let f = c.self.inside in
    let i = c.self.invariant in
    rw (sym c.self.view_is) (c.len.ensures.is ∙ i.1 ∙ sym (length-zip f.numbers.items f.contents i.1))
