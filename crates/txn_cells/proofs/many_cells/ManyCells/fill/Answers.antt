use Rattle.std.proofs.Common.{◌≡◌, ◌≤◌, ◌+◌, ℕ, List, None, false, nat_eq, length, sym, ap, ◌∙◌, arith}
use Rattle.std.specs.List.Sorted.{IsStrictlyIncreasing}
use Rattle.std.specs.Map.{keys_of}
use Rattle.std.proofs.lemmas.Map.Entries.{length-keys_of}
use Rattle.txn_cells.specs.Kept.{Held, holds}
use Rattle.txn_cells.proofs.Finding.{holders_put, last_at, last_more, own_numbers}
use Rattle.txn_cells.proofs.Reserving.{found_by_key}
use Rattle.txn_cells.proofs.many_cells.ManyCells.fill.Goals as goal

pub place_for-place-requires-clause-fresh : goal.place_for-place-requires-clause-fresh
place_for-place-requires-clause-fresh g c =
    rw c.numbers-numbers.ensures.is (sym (found_by_key (nat_eq c.args.txn) c.args.few.now) ∙ c.requires.fresh)

pub take_over-requires-clause-room : goal.take_over-requires-clause-room
take_over-requires-clause-room g c =
    let long = ap length c.numbers-numbers.ensures.is in
    omega (arith, c.numbers-numbers.ensures.fits, long, length-keys_of c.args.few.now, c.in_ok-reserve.ensures.ok)

pub invariant_of-self-2 : goal.invariant_of-self-2
invariant_of-self-2 g c =
    let few : Held _ = c.args.few.now in
    let m = c.take_over.new.contents in
    let now = c.insert_full.new.self.entries in
    let ns : List ℕ = keys_of few in
    let t : ℕ = c.args.txn in
    let within : c.place_for-place.result ≤ length ns = rw c.numbers-numbers.ensures.is at c.place_for-place.ensures.within in
    let rising = rw c.numbers-numbers.ensures.is at c.place_for-place.ensures.rising in
    let risen : IsStrictlyIncreasing ns = rw c.numbers-numbers.ensures.is at c.numbers-numbers.ensures.rising in
    let fresh : holds m.entries t ≡ false = rw c.take_over.ensures.entries c.requires.fresh in
    let changed = rw c.unwrap-index.ensures at c.insert_full.ensures.updates in
    let entries = rw c.unwrap-index.ensures at c.insert_full.ensures.entries in
    rw (c.in_ok-fill.ensures.ok, c.numbers-numbers.ensures.is)
    (holders_put ns few now (own_numbers few risen) t c.place_for-place.result within rising (rw c.take_over.ensures.entries at changed.0)
    (last_more m now t None fresh entries ∙ ap (λ (es : Held _). length es + 1) c.take_over.ensures.entries))

pub returns-clause-at : goal.returns-clause-at
returns-clause-at g c =
    let m = c.take_over.new.contents in
    let fresh : holds m.entries c.args.txn ≡ false = rw c.take_over.ensures.entries c.requires.fresh in
    let entries = rw c.unwrap-index.ensures at c.insert_full.ensures.entries in
    let index = rw c.unwrap-index.ensures at c.insert_full.ensures.index in
    last_at m c.insert_full.new.self.entries c.args.txn None fresh entries c.unwrap-index.result.0 index

pub returns-clause-changed : goal.returns-clause-changed
returns-clause-changed g c =
    let changed = rw c.unwrap-index.ensures at c.insert_full.ensures.updates in
    rw c.take_over.ensures.entries at changed.0

pub returns-clause-more : goal.returns-clause-more
returns-clause-more g c =
    let m = c.take_over.new.contents in
    let fresh : holds m.entries c.args.txn ≡ false = rw c.take_over.ensures.entries c.requires.fresh in
    let entries = rw c.unwrap-index.ensures at c.insert_full.ensures.entries in
    last_more m c.insert_full.new.self.entries c.args.txn None fresh entries ∙ ap (λ (es : Held _). length es + 1) c.take_over.ensures.entries
