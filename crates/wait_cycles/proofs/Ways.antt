-- The way back from one that was reached to the start.
use Rattle.std.proofs.Common.{◌≡◌, ℕ, ◌<◌, ◌+◌, Bool, true, false, not, nat_eq, ◌&&◌, unwrap_or, List, [], ◌∷◌, ◌++◌, reverse, length, Option, Some, None, inl, inr, refl, sym, ap, subst, ◌∙◌, arith}
use Rattle.std.specs.Prelude.{slice_get, IsTrue}
use Rattle.std.proofs.lemmas.List.{reverse-append}
use Rattle.std.proofs.lemmas.Option.{slice_get_within}
use Rattle.std.proofs.lemmas.Bool.{false≢true, or_cases, eqb-true}
use Rattle.wait_cycles.specs.declared.trail.Reached.{Reached}
use Rattle.wait_cycles.specs.Cycles.{Pairs, IsCycle, WaitInTurn, waits_in, is_distinct, is_member}
use Rattle.wait_cycles.specs.Trails.{AreBackward, IsAt, IsFound, nodes}
use Rattle.wait_cycles.proofs.Lists.{one_place, get-map}

-- the place is one of the trail
abbrev pub IsWithin : List Reached → Option ℕ → Type 0
IsWithin trail None = Unit {0}
IsWithin trail (Some j) = j < length trail

abbrev pub height : Option ℕ → ℕ
height None = 0
height (Some j) = j + 1

-- k stands behind the place
abbrev pub IsBehind : Option ℕ → ℕ → Type 0
IsBehind None k = Unit {0}
IsBehind (Some j) k = j < k

-- those on the way, from behind this place on, each waiting for the next and the last for the start
pub record IsWay (pairs : Pairs) (start : ℕ) (trail : List Reached) (place : ℕ) (before : Option ℕ) (way : List ℕ) : Type 0 where
  pub at : ℕ
  pub is_at : IsAt start (nodes trail) place before at
  pub turn : WaitInTurn pairs at way start
  pub distinct : is_distinct way ≡ true
  pub behind : (b : ℕ) → is_member b way ≡ true → (k : ℕ) × (slice_get (nodes trail) k ≡ Some b) × (k < place) × IsBehind before k

module _ (pairs : Pairs) (start : ℕ) (trail : List Reached) (place : ℕ) (found : IsFound pairs start trail) (at_place : slice_get (nodes trail) place ≡ Some start) where
  name_at : (j : ℕ) (r : Reached) (a : ℕ) → slice_get trail j ≡ Some r → slice_get (nodes trail) j ≡ Some a → r.txn ≡ a
  name_at j r a at also = ap (λ (o : Option ℕ). unwrap_or o a) (sym (get-map (λ (x : Reached). x.txn) trail j r at) ∙ also)

  -- from the place
  pub way_first : (r : Reached) → slice_get trail place ≡ Some r → IsWay pairs start trail place r.from []
  way_first r at =
      let c = found.sound place r at in
      record {
        at = c.0;
        is_at = c.1;
        turn = subst (λ (b : ℕ). IsTrue (waits_in pairs c.0 b)) (name_at place r start at at_place) c.2;
        distinct = refl;
        behind = λ b e. absurd (false≢true e);
      }

  nearer : (j : ℕ) (from : Option ℕ) (a : ℕ) → j < place → IsAt start (nodes trail) j from a → IsAt start (nodes trail) place from a
  nearer j None a less is = is
  nearer j (Some i) a less is = (omega (arith, less, is.0), is.1)

  behind_here : (j : ℕ) (from : Option ℕ) (a : ℕ) → IsAt start (nodes trail) j from a → IsBehind from j
  behind_here j None a is = tt
  behind_here j (Some i) a is = is.0

  behind_too : (j : ℕ) (from : Option ℕ) (a k : ℕ) → IsAt start (nodes trail) j from a → j < k → IsBehind from k
  behind_too j None a k is less = tt
  behind_too j (Some i) a k is less = omega (arith, is.0, less)

  -- one more on the way back
  pub way_back : (j : ℕ) (way : List ℕ) → IsWay pairs start trail place (Some j) way → (r : Reached) → slice_get trail j ≡ Some r
      → IsWay pairs start trail place r.from (r.txn ∷ way)
  way_back j way is r at =
      let c = found.sound j r at in
      let same : r.txn ≡ is.at = name_at j r is.at at is.is_at.1 in
      let here : slice_get (nodes trail) j ≡ Some r.txn = get-map (λ (x : Reached). x.txn) trail j r at in
      record {
        at = c.0;
        is_at = nearer j r.from c.0 is.is_at.0 c.1;
        turn = (c.2, subst (λ (a : ℕ). WaitInTurn pairs a way start) (sym same) is.turn);
        distinct = fresh r.txn here (is_member r.txn way) refl;
        behind = λ b e.
            elim (or_cases (nat_eq b r.txn) (is_member b way) e) [
              | inl mine ↦ (j, here ∙ ap (λ (x : ℕ). Some x) (sym (eqb-true b r.txn mine)), is.is_at.0, behind_here j r.from c.0 c.1)
              | inr later ↦ let k = is.behind b later in (k.0, k.1, k.2, behind_too j r.from c.0 k.0 c.1 k.3)
            ];
      }
    where
      fresh : (a : ℕ) → slice_get (nodes trail) j ≡ Some a → (b : Bool) → is_member a way ≡ b → (not (is_member a way) && is_distinct way) ≡ true
      fresh a here true e =
          let k = is.behind a e in
          let same : k.0 ≡ j = one_place (nodes trail) found.distinct k.0 j a k.1 here in
          absurd (omega (arith, k.3, same))
      fresh a here false e = rw e is.distinct

  -- at the start
  pub way_done : (way : List ℕ) → IsWay pairs start trail place None way → IsCycle pairs (start ∷ way)
  way_done way is = (fresh (is_member start way) refl, subst (λ (a : ℕ). WaitInTurn pairs a way start) (sym is.is_at) is.turn)
    where
      fresh : (b : Bool) → is_member start way ≡ b → (not (is_member start way) && is_distinct way) ≡ true
      fresh true e =
          let k = is.behind start e in
          let same : k.0 ≡ place = one_place (nodes trail) found.distinct k.0 place start k.1 at_place in
          absurd (omega (arith, k.2, same))
      fresh false e = rw e is.distinct

-- the place before is nearer to the start
pub less_high : (trail : List Reached) → AreBackward trail → (j : ℕ) (r : Reached) → slice_get trail j ≡ Some r → height r.from < j + 1
less_high trail backward j r at = by r.from refl
  where
    by : (o : Option ℕ) → r.from ≡ o → height o < j + 1
    by None e = omega arith
    by (Some i) e = let less = backward j i r at e in omega (arith, less)

pub within_before : (trail : List Reached) → AreBackward trail → (j : ℕ) (r : Reached) → slice_get trail j ≡ Some r → IsWithin trail r.from
within_before trail backward j r at = by r.from refl
  where
    by : (o : Option ℕ) → r.from ≡ o → IsWithin trail o
    by None e = tt
    by (Some i) e =
        let less = backward j i r at e in
        let within = slice_get_within trail j r at in
        omega (arith, less, within)

-- the one that was put last stands first, turned round
pub turned : (xs : List ℕ) (x : ℕ) → reverse (xs ++ x ∷ []) ≡ x ∷ reverse xs
turned xs x = reverse-append xs (x ∷ [])
