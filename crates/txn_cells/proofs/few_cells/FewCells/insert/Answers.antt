use Rattle.std.proofs.Common.{◌≡◌, ◌<◌, ◌≤◌, ℕ, length, false, List, ap, sym, ◌∙◌, arith, None}
use Rattle.std.specs.Prelude.{slice_get}
use Rattle.std.specs.List.{insert, zip}
use Rattle.std.proofs.lemmas.Map.Made.{keys_of-zip}
use Rattle.txn_cells.specs.Kept.{holds}
use Rattle.txn_cells.proofs.Holding.{length-zip, put_cell, put_more, put_same}
use Rattle.txn_cells.proofs.Zipped.{insert_at, listed}
use Rattle.txn_cells.proofs.few_cells.FewCells.insert.Goals as goal

pub place_for-place-requires-clause-fresh : goal.place_for-place-requires-clause-fresh
place_for-place-requires-clause-fresh g c =
    let f = c.self.inside in
    let fresh : holds (zip f.numbers.items f.contents) c.args.txn ≡ false = rw (sym c.self.view_is) at c.requires.fresh in
    rw c.as_slice.ensures.value (sym (listed f.numbers.items f.contents c.self.invariant.1 c.args.txn) ∙ fresh)

pub insert-requires : goal.insert-requires
insert-requires g c =
    let f = c.self.inside in
    let left : length (zip f.numbers.items f.contents) < 4 = rw (sym c.self.view_is) at c.requires.room in
    let within : c.place_for-place.result ≤ length f.numbers.items = rw c.as_slice.ensures.value at c.place_for-place.ensures.within in
    let long = length-zip f.numbers.items f.contents c.self.invariant.1 in
    (omega arith, (within, omega (arith, left, long)))

pub insert-requires-2-clause-room : goal.insert-requires-2-clause-room
insert-requires-2-clause-room g c =
    let f = c.self.inside in
    let left : length (zip f.numbers.items f.contents) < 4 = rw (sym c.self.view_is) at c.requires.room in
    let long = length-zip f.numbers.items f.contents c.self.invariant.1 in
    omega (arith, left, long, c.self.invariant.1)

pub returns-clause-at : goal.returns-clause-at
returns-clause-at g c =
    let f = c.self.inside in
    let ns : List ℕ = f.numbers.items in
    let i = c.self.invariant in
    let p : ℕ = c.place_for-place.result in
    let t : ℕ = c.args.txn in
    let within : p ≤ length ns = rw c.as_slice.ensures.value at c.place_for-place.ensures.within in
    rw (c.insert.ensures.items, c.insert-2.ensures)
    (ap (λ (ks : List ℕ). slice_get ks p) (keys_of-zip (insert ns p t) (insert f.contents p None) (put_same ns f.contents i.0 i.1 t p within))
    ∙ insert_at ns p t within)

pub returns-clause-changed : goal.returns-clause-changed
returns-clause-changed g c =
    let f = c.self.inside in
    let ns : List ℕ = f.numbers.items in
    let i = c.self.invariant in
    let p : ℕ = c.place_for-place.result in
    let t : ℕ = c.args.txn in
    let held : holds (zip ns f.contents) t ≡ false = rw (sym c.self.view_is) at c.requires.fresh in
    let within : p ≤ length ns = rw c.as_slice.ensures.value at c.place_for-place.ensures.within in
    rw (c.insert.ensures.items, c.insert-2.ensures, sym c.self.view_is) (put_cell ns f.contents i.0 i.1 t p within held)

pub returns-clause-more : goal.returns-clause-more
returns-clause-more g c =
    let f = c.self.inside in
    let ns : List ℕ = f.numbers.items in
    let i = c.self.invariant in
    let p : ℕ = c.place_for-place.result in
    let within : p ≤ length ns = rw c.as_slice.ensures.value at c.place_for-place.ensures.within in
    rw (c.insert.ensures.items, c.insert-2.ensures, sym c.self.view_is) (put_more ns f.contents i.0 i.1 c.args.txn p within)
