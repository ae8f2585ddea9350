use Rattle.std.proofs.Common.{◌≡◌, ◌≤◌, List, ℕ, length, take, ap, sym, ◌∙◌, arith, Some}
use Rattle.std.specs.Prelude.{slice_get}
use Rattle.std.specs.Map.{keys_of}
use Rattle.std.proofs.lemmas.List.{take_all}
use Rattle.std.proofs.lemmas.Map.Entries.{length-keys_of}
use Rattle.serial_spec.proofs.Exports.{take_next, take_past}
use Rattle.txn_cells.specs.Kept.{content_kept, place_kept}
use Rattle.txn_cells.proofs.Handing.{contents_next, parents_there, places_next}
use Rattle.txn_cells.proofs.Placing.{at_in, key_listed, none_listed}
use Rattle.txn_cells.proofs.Reserving.{among_at}
use Rattle.txn_cells.proofs.places.Places.hand_up_all.Goals as goal
use Rattle.txn_cells.proofs.places.Places.hand_up_all.Goals.{in-Some, in_default}

pub hand_up-requires-clause-at : goal.hand_up-requires-clause-at
hand_up-requires-clause-at g c =
    let keys : List (List ℕ) = keys_of c.args.self.now in
    let is = sym c.get.ensures ∙ c.in-Some.is in
    ap (λ (ks : List (List ℕ)). slice_get ks c.in-Some.entry.1) c.loop-index.invariant.keys ∙ at_in keys c.args.list.now c.loop-index.index c.in-Some.entry c.requires.at is

pub hand_up-requires-clause-place : goal.hand_up-requires-clause-place
hand_up-requires-clause-place g c =
    let keys : List (List ℕ) = keys_of c.args.list.now in
    let n : ℕ = c.loop-index.index in
    let is = sym c.get.ensures ∙ c.in-Some.is in
    parents_there (place_kept c.args.self.now) (place_kept c.loop-index.self) c.args.child keys n c.in-Some.entry.0 c.args.parent.now c.requires.other c.requires.places c.loop-index.invariant.places
    (among_at n c.in-Some.entry.0 keys (key_listed c.args.list.now n c.in-Some.entry is))

pub loop-index-preserved : goal.loop-index-preserved
loop-index-preserved g c =
    let keys : List (List ℕ) = keys_of c.args.list.now in
    let n : ℕ = c.loop-index.index in
    let i = c.loop-index.invariant in
    let old = c.args.self.now in
    elim c.match-get.branch [
      | in-Some w ↦
          let k : List ℕ = w.in-Some.entry.0 in
          let at : slice_get keys n ≡ Some k = key_listed c.args.list.now n w.in-Some.entry (sym c.get.ensures ∙ w.in-Some.is) in
          rw (w.self-is, take_next keys n k at) (record {
            keys = w.hand_up.ensures.keys ∙ i.keys;
            contents = contents_next g.V.Inherit.inherited (content_kept old) c.args.child c.args.parent.now (take n keys) k (content_kept c.loop-index.self) (content_kept w.hand_up.new.self) i.contents w.hand_up.ensures.contents;
            places = places_next (place_kept old) (place_kept c.loop-index.self) (place_kept w.hand_up.new.self) c.args.child (take n keys) k i.places w.hand_up.ensures.places;
          })
      | in_default w ↦ rw (w.self-is, take_past keys n (none_listed c.args.list.now n (sym c.get.ensures ∙ w.in_default.is))) i
    ]

pub returns-clause-contents : goal.returns-clause-contents
returns-clause-contents g c =
    let keys : List (List ℕ) = keys_of c.args.list.now in
    let past : length keys ≤ c.loop-index.index = omega (arith, length-keys_of c.args.list.now, c.len-index-end.ensures, c.loop-index-test.false) in
    rw (take_all c.loop-index.index keys past) at c.loop-index.invariant.contents

pub returns-clause-places : goal.returns-clause-places
returns-clause-places g c =
    let keys : List (List ℕ) = keys_of c.args.list.now in
    let past : length keys ≤ c.loop-index.index = omega (arith, length-keys_of c.args.list.now, c.len-index-end.ensures, c.loop-index-test.false) in
    rw (take_all c.loop-index.index keys past) at c.loop-index.invariant.places
