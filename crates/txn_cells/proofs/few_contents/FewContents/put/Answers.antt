use Rattle.std.proofs.Common.{[], ◌∷◌, sym}
use Rattle.txn_cells.proofs.First.{first-set}
use Rattle.txn_cells.proofs.few_contents.FewContents.put.Goals as goal

pub returns-in-1 : goal.returns-in-1
returns-in-1 g c =
    let f = c.self.inside in
    rw (sym c.self.view_is, c.in-1.is) (first-set f.count 1 (f.first ∷ f.second ∷ f.third ∷ f.fourth ∷ []) c.args.content)

pub returns-in-2 : goal.returns-in-2
returns-in-2 g c =
    let f = c.self.inside in
    rw (sym c.self.view_is, c.in-2.is) (first-set f.count 2 (f.first ∷ f.second ∷ f.third ∷ f.fourth ∷ []) c.args.content)
