use Rattle.std.proofs.Common.{◌≡◌, ◌≤◌, ℕ, List, length, take, ap, sym, ◌∙◌, arith, rules, Some}
use Rattle.std.specs.Prelude.{IsOk, slice_get}
use Rattle.std.specs.Map.{keys_of}
use Rattle.std.proofs.lemmas.List.{take_all}
use Rattle.std.proofs.lemmas.Map.Entries.{length-keys_of}
use Rattle.serial_spec.proofs.Exports.{take_next, take_past}
use Rattle.txn_cells.specs.Kept.{Listed, keys_at, listed_at, place_kept}
use Rattle.txn_cells.proofs.Placing.{at_in, key_listed, none_listed}
use Rattle.txn_cells.proofs.Puts.{at_err}
use Rattle.txn_cells.proofs.Reserving.{there_already, towards, with_all, with_next}
use Rattle.txn_cells.proofs.table.make_places.Goals as goal
use Rattle.txn_cells.proofs.table.make_places.Goals.{in-Some+in_ok-make_place_at, in_default}

pub make_place_at-requires-clause-at : goal.make_place_at-requires-clause-at
make_place_at-requires-clause-at g c =
    at_in (keys_of c.loop-index.places) (listed_at c.loop-index.keys c.args.child) c.loop-index.index c.in-Some.entry (c.loop-index.invariant.placed c.args.child) (sym c.get.ensures ∙ c.in-Some.is)

pub loop-index-preserved : goal.loop-index-preserved
loop-index-preserved g c =
    let i = c.loop-index.invariant in
    let old = c.args.places.now in
    let listed : Listed = listed_at c.args.keys.now c.args.child in
    let keys : List (List ℕ) = keys_of listed in
    let n : ℕ = c.loop-index.index in
    let got : c.get.result ≡ slice_get listed n = c.get.ensures ∙ ap (λ (es : Listed). slice_get es n) i.kept in
    elim c.match-get.branch [
      | in-Some+in_ok-make_place_at w ↦
          let k : List ℕ = w.in-Some.entry.0 in
          let e = w.make_place_at.ensures in
          let at : slice_get keys n ≡ Some k = key_listed listed n w.in-Some.entry (sym got ∙ w.in-Some.is) in
          rw (w.places-is, w.keys-is, take_next keys n k at) (record {
            listed = e.listed;
            placed = e.placed;
            kept = e.others c.args.child c.requires.other ∙ i.kept;
            places = λ u q. w.in_ok-make_place_at.ensures.ok u q ∙ with_next (place_kept old) c.args.parent (take n keys) k (place_kept c.loop-index.places) i.places u q;
            contents = λ u q. e.contents u q ∙ i.contents u q;
          })
      | in_default w ↦ rw (w.places-is, w.keys-is, take_past keys n (none_listed listed n (sym got ∙ w.in_default.is))) i
    ]

pub returns-clause-ok : goal.returns-clause-ok
returns-clause-ok g c =
    let old = c.args.places.now in
    let keys : List (List ℕ) = keys_at c.args.keys.now c.args.child in
    let past : length keys ≤ c.loop-index.index = omega (arith, length-keys_of (listed_at c.args.keys.now c.args.child), c.count-index-end.ensures, c.loop-index-test.false) in
    let i = rw (take_all c.loop-index.index keys past) at c.loop-index.invariant.places in
    λ u q. i u q ∙ with_all (place_kept old) c.args.parent keys c.args.child (c.requires.listed c.args.child) u q

pub returns-in_err-make_place_at-clause-err : goal.returns-in_err-make_place_at-clause-err
returns-in_err-make_place_at-clause-err g c =
    let old = c.args.places.now in
    let keys : List (List ℕ) = keys_at c.args.keys.now c.args.child in
    at_err c.from_residual.result
    (towards (place_kept old) c.args.parent keys c.args.child (c.requires.listed c.args.child) (place_kept c.make_place_at.new.places) c.loop-index.index
    (λ u q. c.in_err-make_place_at.ensures.err u q ∙ c.loop-index.invariant.places u q))

pub returns-in_err-make_place_at-clause-succeeds : goal.returns-in_err-make_place_at-clause-succeeds
returns-in_err-make_place_at-clause-succeeds g c = λ all.
    let i = c.loop-index.invariant in
    let old = c.args.places.now in
    let listed : Listed = listed_at c.args.keys.now c.args.child in
    let keys : List (List ℕ) = keys_of listed in
    let n : ℕ = c.loop-index.index in
    let k : List ℕ = c.in-Some.entry.0 in
    let got : c.get.result ≡ slice_get listed n = c.get.ensures ∙ ap (λ (es : Listed). slice_get es n) i.kept in
    let at : slice_get keys n ≡ Some k = key_listed listed n c.in-Some.entry (sym got ∙ c.in-Some.is) in
    let ok : IsOk c.make_place_at.result =
    c.make_place_at.ensures.succeeds
    (there_already (place_kept old) c.args.parent keys c.args.child (c.requires.listed c.args.child) all (place_kept c.loop-index.places) n i.places n k at) in
    search rules
