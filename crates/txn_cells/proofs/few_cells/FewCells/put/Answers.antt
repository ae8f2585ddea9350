use Rattle.std.proofs.Common.{◌<◌, length, set, sym, ◌∙◌, arith, Some}
use Rattle.std.specs.List.{zip}
use Rattle.std.proofs.lemmas.List.{length-set}
use Rattle.std.proofs.lemmas.Map.Made.{keys_of-zip}
use Rattle.txn_cells.proofs.Holding.{length-zip, set_cell}
use Rattle.txn_cells.proofs.few_cells.FewCells.put.Goals as goal

pub put-requires : goal.put-requires
put-requires g c =
    let f = c.self.inside in
    let i = c.self.invariant in
    let within : c.args.index < length (zip f.numbers.items f.contents) = rw (sym c.self.view_is) at c.requires in
    omega (arith, within, length-zip f.numbers.items f.contents i.1, i.1)

pub returns-clause-keys : goal.returns-clause-keys
returns-clause-keys g c =
    let f = c.self.inside in
    let i = c.self.invariant in
    rw (sym c.self.view_is, c.put.ensures)
    (keys_of-zip f.numbers.items (set f.contents c.args.index (Some c.args.value)) (length-set f.contents c.args.index (Some c.args.value) ∙ i.1)
    ∙ sym (keys_of-zip f.numbers.items f.contents i.1))

pub returns-clause-changed : goal.returns-clause-changed
returns-clause-changed g c =
    let f = c.self.inside in
    let i = c.self.invariant in
    rw (sym c.self.view_is, keys_of-zip f.numbers.items f.contents i.1, c.put.ensures)
    (λ t at. set_cell f.numbers.items f.contents i.0 i.1 t c.args.index at (Some c.args.value))
