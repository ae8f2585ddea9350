-- All that are reached: whoever waits in turn from one of them leads to one of them.
use Rattle.std.proofs.Common.{◌≡◌, ℕ, ◌+◌, ◌<◌, ◌≤◌, nat_eq, true, List, [], ◌∷◌, ◌++◌, length, Option, Some, inl, inr, sym, ap, subst, ◌∙◌, arith}
use Rattle.std.specs.Prelude.{slice_get}
use Rattle.std.proofs.lemmas.Bool.{false≢true, eqb-true, or_cases, cases_lt}
use Rattle.std.proofs.lemmas.List.{length-append}
use Rattle.std.proofs.lemmas.Option.{slice_get_within}
use Rattle.wait_cycles.specs.declared.trail.Reached.{Reached}
use Rattle.wait_cycles.specs.Cycles.{Pairs, IsCycle, WaitInTurn, is_member}
use Rattle.wait_cycles.specs.Trails.{Covers, IsAt, IsFound, IsLonger, IsTrail, nodes}
use Rattle.wait_cycles.proofs.Lists.{length_map, get_within, get-map, map_append, place_of}
use Rattle.wait_cycles.proofs.Found.{member_longer}

module _ (pairs : Pairs) (start : ℕ) (old new : List Reached) (longer : IsLonger pairs old new) where
  stays : (a : ℕ) → is_member a (nodes old) ≡ true → is_member a (nodes new) ≡ true
  stays a e = subst (λ (xs : List Reached). is_member a (nodes xs) ≡ true) (sym longer.more.1) (member_longer old longer.more.0 a e)

  pub covers_longer : (a : ℕ) → Covers pairs old a → Covers pairs new a
  covers_longer a covers b waits = stays b (covers b waits)

  long : length new ≡ length old + length longer.more.0
  long = ap length longer.more.1 ∙ length-append old longer.more.0

  -- one more has been gone on from
  module _ (n : ℕ) (r : Reached) (at : slice_get old n ≡ Some r) (covers : Covers pairs new r.txn)
      (before : (i a : ℕ) → i < n → slice_get (nodes old) i ≡ Some a → Covers pairs old a) where
    within : n < length old
    within = slice_get_within old n r at

    pub is_at_place : (s : ℕ) → IsAt s (nodes old) (length old) (Some n) r.txn
    is_at_place s = (within, get-map (λ (x : Reached). x.txn) old n r at)

    pub gone_on : (i a : ℕ) → i < n + 1 → slice_get (nodes new) i ≡ Some a → Covers pairs new a
    gone_on i a less there =
        let size : length (nodes old) ≡ length old = length_map (λ (x : Reached). x.txn) old in
        let front : slice_get (nodes old ++ nodes longer.more.0) i ≡ Some a =
        ap (λ (ns : List ℕ). slice_get ns i) (sym (ap nodes longer.more.1 ∙ map_append (λ (x : Reached). x.txn) old longer.more.0)) ∙ there in
        let here = get_within (nodes old) (nodes longer.more.0) i a front (omega (arith, less, within, size)) in
        elim (cases_lt i n) [
          | inl below ↦ covers_longer a (before i a below here)
          | inr past ↦
              let same : i ≡ n = omega (arith, past, less) in
              let alike : Some r.txn ≡ Some a = sym (get-map (λ (x : Reached). x.txn) old n r at) ∙ subst (λ (k : ℕ). slice_get (nodes old) k ≡ Some a) same here in
              subst (λ (x : ℕ). Covers pairs new x) (ap (λ (o : Option ℕ). Rattle.std.specs.Prelude.unwrap_or o a) alike) covers
        ]

    pub place_within : n + 1 ≤ length new
    place_within = omega (arith, within, long)

-- all places have been gone on from
pub all_gone : (pairs : Pairs) (start : ℕ) (trail : List Reached) (n : ℕ) → IsFound pairs start trail → Covers pairs trail start
    → ((i a : ℕ) → i < n → slice_get (nodes trail) i ≡ Some a → Covers pairs trail a) → length trail ≤ n → IsTrail pairs start trail
all_gone pairs start trail n found first gone end = record {
  found = found;
  first = first;
  all = λ a e.
      let p = place_of a (nodes trail) e in
      let within = slice_get_within (nodes trail) p.0 a p.1 in
      let size : length (nodes trail) ≡ length trail = length_map (λ (x : Reached). x.txn) trail in
      gone p.0 a (omega (arith, within, size, end)) p.1;
}

-- ---- whoever waits in turn

module _ (pairs : Pairs) (start : ℕ) (trail : List Reached) (is : IsTrail pairs start trail) where
  -- from one whose next are covered on to the last
  reaches : (a : ℕ) (xs : List ℕ) (b : ℕ) → Covers pairs trail a → WaitInTurn pairs a xs b → is_member b (nodes trail) ≡ true
  reaches a [] b covers turn = covers b turn
  reaches a (x ∷ xs) b covers turn = reaches x xs b (is.all x (covers x turn.0)) turn.1

  -- past the start to the last
  reaches_past : (a : ℕ) (xs : List ℕ) (b : ℕ) → is_member start xs ≡ true → WaitInTurn pairs a xs b → is_member b (nodes trail) ≡ true
  reaches_past a [] b e turn = absurd (false≢true e)
  reaches_past a (x ∷ xs) b e turn =
      elim (or_cases (nat_eq start x) (is_member start xs) e) [
        | inl here ↦ reaches x xs b (subst (λ (y : ℕ). Covers pairs trail y) (eqb-true start x here) is.first) turn.1
        | inr later ↦ reaches_past x xs b later turn.1
      ]

  -- from one that is reached to any on the way
  reaches_member : (a : ℕ) (xs : List ℕ) (b : ℕ) → Covers pairs trail a → is_member start xs ≡ true → WaitInTurn pairs a xs b → is_member start (nodes trail) ≡ true
  reaches_member a [] b covers e turn = absurd (false≢true e)
  reaches_member a (x ∷ xs) b covers e turn =
      elim (or_cases (nat_eq start x) (is_member start xs) e) [
        | inl here ↦ subst (λ (y : ℕ). is_member y (nodes trail) ≡ true) (sym (eqb-true start x here)) (covers x turn.0)
        | inr later ↦ reaches_member x xs b (is.all x (covers x turn.0)) later turn.1
      ]

  -- so one that lies on a cycle reaches itself
  pub reaches_itself : (ys : List ℕ) → IsCycle pairs ys → is_member start ys ≡ true → is_member start (nodes trail) ≡ true
  reaches_itself [] cycle e = absurd cycle
  reaches_itself (y ∷ ys) cycle e =
      elim (or_cases (nat_eq start y) (is_member start ys) e) [
        | inl here ↦
            let same = eqb-true start y here in
            reaches start ys start is.first (subst (λ (x : ℕ). WaitInTurn pairs x ys x) (sym same) cycle.1)
        | inr later ↦ reaches_member y ys y (is.all y (reaches_past y ys y later cycle.1)) later cycle.1
      ]
