-- Pairs by their first, and those that lead to nobody above a number.
use Rattle.std.proofs.Common.{◌≡◌, ◌≢◌, ℕ, zero, suc, ◌+◌, ◌<◌, ◌≤◌, nat_eq, Bool, true, false, not, cond, ◌&&◌, List, [], ◌∷◌, ◌++◌, length, get_or, Option, Some, is_some, unwrap_or, inl, inr, refl, sym, ap, subst, ◌∙◌, true≢false, arith}
use Rattle.std.specs.Prelude.{ltb, nat_le, slice_get}
use Rattle.std.specs.List.{list_any}
use Rattle.std.specs.List.Sorted.{IsNonDecreasingBy, IsPartitionPoint}
use Rattle.std.proofs.lemmas.Bool.{false≢true, eqb-true, or_cases, or_left, or_right, and_parts, and_from, eq-eqb, cases_lt, leb-true, le-leb, ltb-true, ltb-false}
use Rattle.std.proofs.lemmas.List.{length-append}
use Rattle.std.proofs.lemmas.Option.{slice_get_within, slice_get-get_or, get_or_from_slice_get}
use Rattle.wait_cycles.specs.declared.trail.Reached.{Reached}
use Rattle.wait_cycles.specs.Cycles.{Pairs, IsCycle, IsGreatest, WaitInTurn, is_member, waits_in}
use Rattle.wait_cycles.specs.inner.Sorted.{ArePartedAt, AreRising, AreSorted, IsAwaited, up_to}
use Rattle.wait_cycles.specs.Trails.{Covers, IsFound, IsLastReached, nodes}
use Rattle.txn_tree.proofs.Exports.{get_front}
use Rattle.wait_cycles.proofs.Lists.{any-map, map_append, member_append, member_here, place_of, pushed_member}
use Rattle.wait_cycles.proofs.Found.{pair_of, waits_by_pair}
use Rattle.wait_cycles.proofs.Tops.{greatest_of, waited_for}

-- ---- pairs that all are among others

module _ (pairs others : Pairs) (among : (a b : ℕ) → waits_in pairs a b ≡ true → waits_in others a b ≡ true) where
  turn_onto : (a : ℕ) (xs : List ℕ) (b : ℕ) → WaitInTurn pairs a xs b → WaitInTurn others a xs b
  turn_onto a [] b turn = among a b turn
  turn_onto a (x ∷ xs) b turn = (among a x turn.0, turn_onto x xs b turn.1)

  pub cycle_onto : (xs : List ℕ) → IsCycle pairs xs → IsCycle others xs
  cycle_onto [] cycle = cycle
  cycle_onto (a ∷ xs) cycle = (cycle.0, turn_onto a xs a cycle.1)

  pub found_onto : (start : ℕ) (trail : List Reached) → IsFound pairs start trail → IsFound others start trail
  found_onto start trail found = record {
    distinct = found.distinct;
    sound = λ i r at. let c = found.sound i r at in (c.0, c.1, among c.0 r.txn c.2);
  }

-- ---- pairs that lead to nobody above the start

pub of_up_to : (pairs : Pairs) (start a b : ℕ) → waits_in (up_to pairs start) a b ≡ true → (waits_in pairs a b ≡ true) × (b ≤ start)
of_up_to [] start a b e = absurd (false≢true e)
of_up_to (p ∷ pairs) start a b e = by (nat_le p.1 start) refl (of_up_to pairs start a b) e
  where
    by : (t : Bool) → nat_le p.1 start ≡ t → (waits_in (up_to pairs start) a b ≡ true → (waits_in pairs a b ≡ true) × (b ≤ start))
        → waits_in (cond t (p ∷ up_to pairs start) (up_to pairs start)) a b ≡ true → (waits_in (p ∷ pairs) a b ≡ true) × (b ≤ start)
    by true on rest f =
        elim (or_cases (nat_eq p.0 a && nat_eq p.1 b) (waits_in (up_to pairs start) a b) f) [
          | inl here ↦
              let parts = and_parts (nat_eq p.0 a) (nat_eq p.1 b) here in
              (or_left (nat_eq p.0 a && nat_eq p.1 b) (waits_in pairs a b) here, subst (λ (x : ℕ). x ≤ start) (eqb-true p.1 b parts.1) (leb-true p.1 start on))
          | inr later ↦ let r = rest later in (or_right (nat_eq p.0 a && nat_eq p.1 b) (waits_in pairs a b) r.0, r.1)
        ]
    by false off rest f = let r = rest f in (or_right (nat_eq p.0 a && nat_eq p.1 b) (waits_in pairs a b) r.0, r.1)

pub in_up_to : (pairs : Pairs) (start i : ℕ) (p : ℕ × ℕ) → slice_get pairs i ≡ Some p → p.1 ≤ start → (j : ℕ) × (slice_get (up_to pairs start) j ≡ Some p)
in_up_to [] start i p at low = absurd (false≢true (ap is_some at))
in_up_to (q ∷ pairs) start zero p at low = by (nat_le q.1 start) (le-leb q.1 start (subst (λ (r : ℕ × ℕ). r.1 ≤ start) same low))
  where
    same : p ≡ q
    same = sym (ap (λ o. unwrap_or o q) at)

    by : (t : Bool) → t ≡ true → (j : ℕ) × (slice_get (cond t (q ∷ up_to pairs start) (up_to pairs start)) j ≡ Some p)
    by true e = (0, at)
    by false e = absurd (false≢true e)
in_up_to (q ∷ pairs) start (suc i) p at low = by (nat_le q.1 start) (in_up_to pairs start i p at low)
  where
    by : (t : Bool) → (j : ℕ) × (slice_get (up_to pairs start) j ≡ Some p) → (j : ℕ) × (slice_get (cond t (q ∷ up_to pairs start) (up_to pairs start)) j ≡ Some p)
    by true r = (suc r.0, r.1)
    by false r = r

waits_up_to : (pairs : Pairs) (start a b : ℕ) → waits_in pairs a b ≡ true → b ≤ start → waits_in (up_to pairs start) a b ≡ true
waits_up_to pairs start a b e low =
    let f = pair_of pairs a b e in
    let r = in_up_to pairs start f.0 f.1 f.2 (subst (λ (x : ℕ). x ≤ start) (sym f.4) low) in
    subst (λ (y : ℕ). waits_in (up_to pairs start) a y ≡ true) f.4
    (subst (λ (x : ℕ). waits_in (up_to pairs start) x f.1.1 ≡ true) f.3 (waits_by_pair (up_to pairs start) r.0 f.1 r.1))

turn_within : (pairs : Pairs) (start a : ℕ) (xs : List ℕ) (b : ℕ) → ((c : ℕ) → is_member c xs ≡ true → c ≤ start) → b ≤ start → WaitInTurn pairs a xs b
    → WaitInTurn (up_to pairs start) a xs b
turn_within pairs start a [] b all low turn = waits_up_to pairs start a b turn low
turn_within pairs start a (x ∷ xs) b all low turn =
    (waits_up_to pairs start a x turn.0 (all x (member_here x xs)), turn_within pairs start x xs b (λ c m. all c (or_right (nat_eq c x) (is_member c xs) m)) low turn.1)

-- a cycle goes by way of nobody above its greatest
pub cycle_within : (pairs : Pairs) (start : ℕ) (xs : List ℕ) → IsCycle pairs xs → IsGreatest start xs → IsCycle (up_to pairs start) xs
cycle_within pairs start [] cycle greatest = cycle
cycle_within pairs start (a ∷ xs) cycle greatest =
    (cycle.0, turn_within pairs start a xs a (λ c m. greatest.others c (or_right (nat_eq c a) (is_member c xs) m)) (greatest.others a (member_here a xs)) cycle.1)

-- ---- order

pub sorted_from : (pairs : Pairs) → IsNonDecreasingBy (λ p. p.0) pairs → AreSorted pairs
sorted_from pairs rises i j p q le at also =
    let within = slice_get_within pairs j q also in
    let less = rises i j p le within in
    let first = ap (λ (r : ℕ × ℕ). r.0) (get_or_from_slice_get pairs i p p at) in
    let second = ap (λ (r : ℕ × ℕ). r.0) (get_or_from_slice_get pairs j q p also) in
    omega (arith, less, first, second)

pub rises_from : (pairs : Pairs) → AreSorted pairs → IsNonDecreasingBy (λ p. p.0) pairs
rises_from pairs sorted i j d le within =
    sorted i j (get_or pairs i d) (get_or pairs j d) le (slice_get-get_or pairs i d (omega (arith, le, within))) (slice_get-get_or pairs j d within)

pub rising_from : (xs : List ℕ) → IsNonDecreasingBy (λ x. x) xs → AreRising xs
rising_from xs rises i j a b le at also =
    let within = slice_get_within xs j b also in
    let less = rises i j a le within in
    let first = get_or_from_slice_get xs i a a at in
    let second = get_or_from_slice_get xs j b a also in
    omega (arith, less, first, second)

pub parted : (pairs : Pairs) (a n : ℕ) → IsPartitionPoint (λ p. ltb p.0 a ≡ true) (λ p. ltb p.0 a ≡ false) pairs n → ArePartedAt pairs a n
parted pairs a n parts i p at =
    let here = ap (λ (r : ℕ × ℕ). r.0) (get_or_from_slice_get pairs i p p at) in
    let within = slice_get_within pairs i p at in (
      λ less. let below = ltb-true (get_or pairs i p).0 a (parts.0 i p (omega arith) less) in omega (arith, below, here),
      λ le. let past = ltb-false (get_or pairs i p).0 a (parts.1 i p le within) in omega (arith, past, here),
    )

-- ---- the pairs of one, gone through

-- those before the place, as far as they do not lead above the start
abbrev pub AreCovered : Pairs → ℕ → ℕ → ℕ → List Reached → Type 0
AreCovered sorted start txn place trail =
    (i : ℕ) (p : ℕ × ℕ) → i < place → slice_get sorted i ≡ Some p → p.0 ≡ txn → p.1 ≤ start → is_member p.1 (nodes trail) ≡ true

module _ (sorted : Pairs) (start txn place : ℕ) where
  -- behind the last
  pub covered : (trail : List Reached) → AreSorted sorted → ((p : ℕ × ℕ) → slice_get sorted place ≡ Some p → p.0 ≢ txn)
      → ((i : ℕ) (p : ℕ × ℕ) → place ≤ i → slice_get sorted i ≡ Some p → txn ≤ p.0) → AreCovered sorted start txn place trail → Covers (up_to sorted start) trail txn
  covered trail rising other low before b waits =
      let w = of_up_to sorted start txn b waits in
      let f = pair_of sorted txn b w.0 in
      elim (cases_lt f.0 place) [
        | inl below ↦
            subst (λ (x : ℕ). is_member x (nodes trail) ≡ true) f.4 (before f.0 f.1 below f.2 f.3 (subst (λ (x : ℕ). x ≤ start) (sym f.4) w.1))
        | inr past ↦
            let within = slice_get_within sorted f.0 f.1 f.2 in
            let there = slice_get-get_or sorted place f.1 (omega (arith, within, past)) in
            let more = rising place f.0 (get_or sorted place f.1) f.1 past there f.2 in
            let less = low place (get_or sorted place f.1) (omega arith) there in
            absurd (other (get_or sorted place f.1) there (omega (arith, more, less, f.3)))
      ]

  -- one more
  pub covered_more : (b : ℕ) (old new : List Reached) → slice_get sorted place ≡ Some (txn, b) → ((a : ℕ) → is_member a (nodes old) ≡ true → is_member a (nodes new) ≡ true)
      → (b ≤ start → is_member b (nodes new) ≡ true) → AreCovered sorted start txn place old → AreCovered sorted start txn (place + 1) new
  covered_more b old new at stays this before i p less found same low =
      elim (cases_lt i place) [
        | inl below ↦ stays p.1 (before i p below found same low)
        | inr past ↦
            let here : i ≡ place = omega (arith, less, past) in
            let alike : (txn, b) ≡ p = ap (λ (o : Option (ℕ × ℕ)). unwrap_or o p) (sym at ∙ subst (λ (k : ℕ). slice_get sorted k ≡ Some p) here found) in
            let second : b ≡ p.1 = ap (λ (q : ℕ × ℕ). q.1) alike in
            subst (λ (x : ℕ). is_member x (nodes new) ≡ true) second (this (subst (λ (x : ℕ). x ≤ start) (sym second) low))
      ]

-- gone on by a pair of those that lead to nobody above the start
pub goes_on : (sorted : Pairs) (start txn place b : ℕ) (trail : List Reached) → slice_get sorted place ≡ Some (txn, b)
    → (nat_le b start && not (list_any (λ r. nat_eq b r.txn) trail)) ≡ true
    → (j : ℕ) × (slice_get (up_to sorted start) j ≡ Some (txn, b)) × ((nat_eq txn txn && not (list_any (λ r. nat_eq b r.txn) trail)) ≡ true)
goes_on sorted start txn place b trail at on =
    let parts = and_parts (nat_le b start) (not (list_any (λ (r : Reached). nat_eq b r.txn) trail)) on in
    let r = in_up_to sorted start place (txn, b) at (leb-true b start parts.0) in
    (r.0, r.1, and_from (nat_eq txn txn) (not (list_any (λ (r : Reached). nat_eq b r.txn) trail)) (eq-eqb txn txn refl) parts.1)

pub pushed_node : (trail : List Reached) (r : Reached) → is_member r.txn (nodes (trail ++ r ∷ [])) ≡ true
pushed_node trail r = ap (is_member r.txn) (map_append (λ (x : Reached). x.txn) trail (r ∷ [])) ∙ pushed_member r.txn (nodes trail)

-- not gone on, since it is above or has been reached
pub reached_before : (trail : List Reached) (start b : ℕ) → (nat_le b start && not (list_any (λ r. nat_eq b r.txn) trail)) ≡ false → b ≤ start → is_member b (nodes trail) ≡ true
reached_before trail start b off low = sym (any-map (λ (r : Reached). r.txn) b trail) ∙ by (nat_le b start) (list_any (λ r. nat_eq b r.txn) trail) (le-leb b start low) off
  where
    by : (x y : Bool) → x ≡ true → (x && not y) ≡ false → y ≡ true
    by true true e f = refl
    by true false e f = absurd (true≢false f)
    by false y e f = absurd (false≢true e)

-- ---- starts

pub listed_more : (pairs : Pairs) (n : ℕ) (p : ℕ × ℕ) (old new : List ℕ) → slice_get pairs n ≡ Some p → ((a : ℕ) → is_member a old ≡ true → is_member a new ≡ true)
    → (p.0 ≤ p.1 → is_member p.1 new ≡ true) → ((i : ℕ) (q : ℕ × ℕ) → i < n → slice_get pairs i ≡ Some q → q.0 ≤ q.1 → is_member q.1 old ≡ true)
    → (i : ℕ) (q : ℕ × ℕ) → i < n + 1 → slice_get pairs i ≡ Some q → q.0 ≤ q.1 → is_member q.1 new ≡ true
listed_more pairs n p old new at stays this before i q less found up =
    elim (cases_lt i n) [
      | inl below ↦ stays q.1 (before i q below found up)
      | inr past ↦
          let here : i ≡ n = omega (arith, less, past) in
          let alike : p ≡ q = ap (λ (o : Option (ℕ × ℕ)). unwrap_or o p) (sym at ∙ subst (λ (k : ℕ). slice_get pairs k ≡ Some q) here found) in
          subst (λ (r : ℕ × ℕ). is_member r.1 new ≡ true) alike (this (subst (λ (r : ℕ × ℕ). r.0 ≤ r.1) (sym alike) up))
    ]

pub greatest_awaited : (pairs : Pairs) (xs : List ℕ) → IsCycle pairs xs → (a : ℕ) → IsGreatest a xs → IsAwaited pairs a
greatest_awaited pairs xs cycle a greatest =
    let c = waited_for pairs xs cycle a greatest.member in
    (c.0, c.2, greatest.others c.0 c.1)

-- the greatest member of each cycle is among these
abbrev pub AreLeft : Pairs → List ℕ → Type 0
AreLeft pairs starts = (xs : List ℕ) → IsCycle pairs xs → (a : ℕ) → IsGreatest a xs → is_member a starts ≡ true

module _ (pairs : Pairs) (front : List ℕ) (start : ℕ) where
  pub fewer_left : AreLeft pairs (front ++ start ∷ []) → ((xs : List ℕ) → IsCycle pairs xs → IsGreatest start xs → ⊥) → AreLeft pairs front
  fewer_left left none xs cycle a greatest =
      elim (or_cases (is_member a front) (is_member a (start ∷ [])) (sym (member_append a front (start ∷ [])) ∙ left xs cycle a greatest)) [
        | inl here ↦ here
        | inr last ↦
            elim (or_cases (nat_eq a start) false last) [
              | inl same ↦ absurd (none xs cycle (subst (λ (x : ℕ). IsGreatest x xs) (eqb-true a start same) greatest))
              | inr nowhere ↦ absurd (false≢true nowhere)
            ]
      ]

  pub rising_front : AreRising (front ++ start ∷ []) → AreRising front
  rising_front rising i j a b le at also = rising i j a b le (get_front front (start ∷ []) i a at) (get_front front (start ∷ []) j b also)

  at_end : (xs : List ℕ) → slice_get (xs ++ start ∷ []) (length xs) ≡ Some start
  at_end [] = refl
  at_end (x ∷ xs) = at_end xs

  pub at_most_last : AreRising (front ++ start ∷ []) → AreLeft pairs (front ++ start ∷ []) → (ys : List ℕ) → IsCycle pairs ys → (b : ℕ) → is_member b ys ≡ true → b ≤ start
  at_most_last rising left [] cycle b e = absurd cycle
  at_most_last rising left (y ∷ ys) cycle b e =
      let g = greatest_of y ys in
      let p = place_of g.0 (front ++ start ∷ []) (left (y ∷ ys) cycle g.0 g.1) in
      let within = slice_get_within (front ++ start ∷ []) p.0 g.0 p.1 in
      let size = length-append front (start ∷ []) in
      let most = rising p.0 (length front) g.0 start (omega (arith, within, size)) p.1 (at_end front) in
      let least = g.1.others b e in
      omega (arith, most, least)

pub nobody_left : (pairs : Pairs) (starts : List ℕ) → length starts ≡ 0 → AreLeft pairs starts → (xs : List ℕ) → IsCycle pairs xs → ⊥
nobody_left pairs starts none left [] cycle = cycle
nobody_left pairs [] none left (x ∷ xs) cycle = let g = greatest_of x xs in false≢true (left (x ∷ xs) cycle g.0 g.1)
nobody_left pairs (s ∷ starts) none left (x ∷ xs) cycle = absurd (omega (arith, none))

-- ---- the same pairs in another order

pub last_reached_onto : (pairs others : Pairs) → ((a b : ℕ) → waits_in pairs a b ≡ waits_in others a b) → (start : ℕ) (trail : List Reached) → IsLastReached pairs start trail
    → IsLastReached others start trail
last_reached_onto pairs others same start trail is = record {
  found = found_onto pairs others (λ a b e. sym (same a b) ∙ e) start trail is.found;
  again = is.again;
  last = λ ys cycle. is.last ys (cycle_onto others pairs (λ a b e. same a b ∙ e) ys cycle);
}
