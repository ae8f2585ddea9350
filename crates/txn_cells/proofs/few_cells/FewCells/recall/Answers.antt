use Rattle.std.proofs.Common.{◌≡◌, ℕ, List, Some, ap, length, refl, sym, ◌∙◌}
use Rattle.std.specs.Prelude.{slice_get}
use Rattle.std.proofs.lemmas.Bool.{eqb-true}
use Rattle.std.proofs.lemmas.Option.{get_or_from_slice_get, slice_get_read}
use Rattle.txn_cells.proofs.Holding.{has_content}
use Rattle.txn_cells.proofs.few_cells.FewCells.recall.Goals as goal

pub returns-then-eq-clause-had : goal.returns-then-eq-clause-had
returns-then-eq-clause-had g c =
    let f = c.self.inside in
    let i = c.self.invariant in
    let xs : List ℕ = c.as_slice-numbers.result.now in
    let n : ℕ = c.index-numbers-index.result in
    let read : slice_get xs c.args.index ≡ Some n = slice_get_read xs (length xs) c.args.index n refl c.if-index-numbers.true c.index-numbers-index.is in
    let same = eqb-true n c.args.txn (sym c.eq.ensures ∙ c.if-eq.true) in
    let at = (rw c.as_slice-numbers.ensures.value at read) ∙ ap (λ (m : ℕ). Some m) same in
    rw (sym c.self.view_is)
    (sym (get_or_from_slice_get f.contents c.args.index c.at.result c.at.result c.at.ensures)
    ∙ sym (has_content f.numbers.items f.contents i.0 i.1 c.args.txn c.args.index at c.at.result))
