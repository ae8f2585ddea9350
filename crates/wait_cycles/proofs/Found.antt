-- One more that was reached.
use Rattle.std.proofs.Common.{◌≡◌, ℕ, zero, suc, ◌+◌, ◌<◌, ◌≤◌, nat_eq, Bool, true, false, not, ◌&&◌, List, [], ◌∷◌, ◌++◌, append_assoc, length, Option, Some, None, is_some, unwrap_or, ◌⊎◌, inl, inr, refl, sym, ap, subst, ◌∙◌, true≢false, arith}
use Rattle.std.specs.Prelude.{slice_get}
use Rattle.std.specs.List.{list_any}
use Rattle.std.proofs.lemmas.Bool.{false≢true, eqb-true, eq-eqb, or_cases, or_left, or_right, and_parts, and_from, cases_lt, not-true}
use Rattle.std.proofs.lemmas.List.{length-append}
use Rattle.wait_cycles.specs.declared.trail.Reached.{Reached}
use Rattle.wait_cycles.specs.Cycles.{Pairs, waits_in, is_member, is_distinct}
use Rattle.wait_cycles.specs.Trails.{ComesFrom, IsAt, IsFound, IsLonger, nodes, open_pairs}
use Rattle.txn_tree.proofs.Exports.{get_front, get_pushed}
use Rattle.wait_cycles.proofs.Lists.{few_pass, any-map, distinct_push, map_append, member_append, pushed_member, one_less}

-- ---- pairs

pub waits_by_pair : (pairs : Pairs) (i : ℕ) (p : ℕ × ℕ) → slice_get pairs i ≡ Some p → waits_in pairs p.0 p.1 ≡ true
waits_by_pair [] i p at = absurd (false≢true (ap is_some at))
waits_by_pair (q ∷ pairs) zero p at =
    let same : q ≡ p = ap (λ o. unwrap_or o q) at in
    or_left (nat_eq q.0 p.0 && nat_eq q.1 p.1) (waits_in pairs p.0 p.1)
    (and_from (nat_eq q.0 p.0) (nat_eq q.1 p.1) (eq-eqb q.0 p.0 (ap (λ (r : ℕ × ℕ). r.0) same)) (eq-eqb q.1 p.1 (ap (λ (r : ℕ × ℕ). r.1) same)))
waits_by_pair (q ∷ pairs) (suc i) p at = or_right (nat_eq q.0 p.0 && nat_eq q.1 p.1) (waits_in pairs p.0 p.1) (waits_by_pair pairs i p at)

pub pair_of : (pairs : Pairs) (a b : ℕ) → waits_in pairs a b ≡ true → (i : ℕ) × (p : ℕ × ℕ) × (slice_get pairs i ≡ Some p) × (p.0 ≡ a) × (p.1 ≡ b)
pair_of [] a b e = absurd (false≢true e)
pair_of (q ∷ pairs) a b e =
    elim (or_cases (nat_eq q.0 a && nat_eq q.1 b) (waits_in pairs a b) e) [
      | inl here ↦ let parts = and_parts (nat_eq q.0 a) (nat_eq q.1 b) here in (0, q, refl, eqb-true q.0 a parts.0, eqb-true q.1 b parts.1)
      | inr later ↦ let f = pair_of pairs a b later in (suc f.0, f.1, f.2, f.3, f.4)
    ]

-- ---- longer trails

pub at_longer : (start : ℕ) (ns more : List ℕ) (i k : ℕ) (from : Option ℕ) (a : ℕ) → i ≤ k → IsAt start ns i from a → IsAt start (ns ++ more) k from a
at_longer start ns more i k None a le is = is
at_longer start ns more i k (Some j) a le is = (omega (arith, le, is.0), get_front ns more j a is.1)

-- a member stays one
pub member_longer : (old rest : List Reached) (a : ℕ) → is_member a (nodes old) ≡ true → is_member a (nodes (old ++ rest)) ≡ true
member_longer old rest a e =
    ap (is_member a) (map_append (λ (r : Reached). r.txn) old rest) ∙ member_append a (nodes old) (nodes rest) ∙ or_left (is_member a (nodes old)) (is_member a (nodes rest)) e

module _ (pairs : Pairs) (trail : List Reached) (r : Reached) (new : is_member r.txn (nodes trail) ≡ false) where
  nodes_pushed : nodes (trail ++ r ∷ []) ≡ nodes trail ++ r.txn ∷ []
  nodes_pushed = map_append (λ (x : Reached). x.txn) trail (r ∷ [])

  pub found_push : (start a : ℕ) → IsFound pairs start trail → IsAt start (nodes trail) (length trail) r.from a → waits_in pairs a r.txn ≡ true
      → IsFound pairs start (trail ++ r ∷ [])
  found_push start a found is waits = record {
    distinct = ap is_distinct nodes_pushed ∙ distinct_push r.txn (nodes trail) found.distinct new;
    sound = λ i x at. by i x (get_pushed trail r i x at);
  }
    where
      longer : (i : ℕ) (x : Reached) → ComesFrom pairs start (nodes trail) i x → ComesFrom pairs start (nodes (trail ++ r ∷ [])) i x
      longer i x c = (c.0, subst (λ ns. IsAt start ns i x.from c.0) (sym nodes_pushed) (at_longer start (nodes trail) (r.txn ∷ []) i i x.from c.0 (omega arith) c.1), c.2)

      by : (i : ℕ) (x : Reached) → (slice_get trail i ≡ Some x) ⊎ ((i ≡ length trail) × (x ≡ r)) → ComesFrom pairs start (nodes (trail ++ r ∷ [])) i x
      by i x (inl front) = longer i x (found.sound i x front)
      by i x (inr last) =
          subst (λ (y : Reached). ComesFrom pairs start (nodes (trail ++ r ∷ [])) i y) (sym last.1)
          (longer i r (a, subst (λ (n : ℕ). IsAt start (nodes trail) n r.from a) (sym last.0) is, waits))

  -- by a pair that led to nobody yet
  pub longer_push : (old : List Reached) (i : ℕ) (p : ℕ × ℕ) → slice_get pairs i ≡ Some p → p.1 ≡ r.txn → IsLonger pairs old trail → IsLonger pairs old (trail ++ r ∷ [])
  longer_push old i p at same longer =
      let less =
      one_less (λ (q : ℕ × ℕ). not (is_member q.1 (nodes trail))) (λ (q : ℕ × ℕ). not (is_member q.1 (nodes (trail ++ r ∷ []))))
      (λ q e. still (is_member q.1 (nodes trail)) (is_member q.1 (nodes (trail ++ r ∷ []))) (member_longer trail (r ∷ []) q.1) e)
      pairs i p at (ap not (ap (λ (b : ℕ). is_member b (nodes trail)) same ∙ new))
      (ap not (ap (λ (b : ℕ). is_member b (nodes (trail ++ r ∷ []))) same ∙ ap (is_member r.txn) nodes_pushed ∙ pushed_member r.txn (nodes trail))) in
      let long : length (trail ++ r ∷ []) ≡ length trail + 1 = length-append trail (r ∷ []) in
      record {
        more = (longer.more.0 ++ r ∷ [], ap (λ (xs : List Reached). xs ++ r ∷ []) longer.more.1 ∙ append_assoc old longer.more.0 (r ∷ []));
        fewer = omega (arith, less, long, longer.fewer);
      }
    where
      still : (a b : Bool) → (a ≡ true → b ≡ true) → not b ≡ true → not a ≡ true
      still true b f e = absurd (true≢false (sym (f refl) ∙ not-true b e))
      still false b f e = refl

pub nobody : (pairs : Pairs) (start : ℕ) → IsFound pairs start []
nobody pairs start = record { distinct = refl; sound = λ i r at. absurd (false≢true (ap is_some at)) }

-- there is room for one a pair
pub room_first : (pairs : Pairs) (trail : List Reached) (capacity : ℕ) → trail ≡ [] → length pairs ≤ capacity → open_pairs pairs trail + length trail ≤ capacity
room_first pairs trail capacity empty room =
    let few = few_pass (λ (p : ℕ × ℕ). not (is_member p.1 (nodes trail))) pairs in
    let none = ap length empty in
    omega (arith, few, none, room)

-- at the start none has been found
pub longer_none : (pairs : Pairs) (trail : List Reached) → IsLonger pairs trail trail
longer_none pairs trail = record { more = ([], sym (append_nil trail)); fewer = omega arith }
  where
    append_nil : (xs : List Reached) → xs ++ [] ≡ xs
    append_nil [] = refl
    append_nil (x ∷ xs) = ap (λ ys. x ∷ ys) (append_nil xs)

-- ---- a pair gone on by

-- one that leads on has not been reached
pub not_yet : (a b : Bool) → (a && not b) ≡ true → b ≡ false
not_yet a b e = not-true b (and_parts a (not b) e).1

module _ (pairs : Pairs) (old trail : List Reached) (a : ℕ) (from : Option ℕ) (n : ℕ) (p : ℕ × ℕ) (at : slice_get pairs n ≡ Some p) where
  same_pair : (q : ℕ × ℕ) → slice_get pairs n ≡ Some q → p ≡ q
  same_pair q also = ap (λ o. unwrap_or o p) (sym at ∙ also)

  -- it leads to one that was not reached yet
  module _ (leads : (nat_eq a p.0 && not (list_any (λ r. nat_eq p.1 r.txn) trail)) ≡ true) where
    parts : (nat_eq a p.0 ≡ true) × (not (list_any (λ r. nat_eq p.1 r.txn) trail) ≡ true)
    parts = and_parts (nat_eq a p.0) (not (list_any (λ r. nat_eq p.1 r.txn) trail)) leads

    fresh : is_member p.1 (nodes trail) ≡ false
    fresh = sym (any-map (λ (r : Reached). r.txn) p.1 trail) ∙ not-true _ parts.1

    abbrev pub next : Reached
    next = record { txn = p.1; from = from }

    pub found_next : ((start : ℕ) → IsFound pairs start old → IsAt start (nodes old) (length old) from a → IsFound pairs start trail) → IsLonger pairs old trail
        → (start : ℕ) → IsFound pairs start old → IsAt start (nodes old) (length old) from a → IsFound pairs start (trail ++ next ∷ [])
    found_next far longer start found is =
        let rest = longer.more.0 in
        let long : length (old ++ rest) ≡ length old + length rest = length-append old rest in
        let size : length trail ≡ length (old ++ rest) = ap length longer.more.1 in
        let here : IsAt start (nodes old ++ nodes rest) (length trail) from a = at_longer start (nodes old) (nodes rest) (length old) (length trail) from a (omega (arith, long, size)) is in
        let same : nodes old ++ nodes rest ≡ nodes trail = sym (map_append (λ (r : Reached). r.txn) old rest) ∙ ap nodes (sym longer.more.1) in
        found_push pairs trail next fresh start a (far start found is) (subst (λ (ns : List ℕ). IsAt start ns (length trail) from a) same here)
        (ap (λ (b : ℕ). waits_in pairs b p.1) (eqb-true a p.0 parts.0) ∙ waits_by_pair pairs n p at)

    pub longer_next : IsLonger pairs old trail → IsLonger pairs old (trail ++ next ∷ [])
    longer_next longer = longer_push pairs trail next fresh old n p at refl longer

    pub covered_next : ((i : ℕ) (q : ℕ × ℕ) → i < n → slice_get pairs i ≡ Some q → a ≡ q.0 → is_member q.1 (nodes trail) ≡ true)
        → (i : ℕ) (q : ℕ × ℕ) → i < n + 1 → slice_get pairs i ≡ Some q → a ≡ q.0 → is_member q.1 (nodes (trail ++ next ∷ [])) ≡ true
    covered_next before i q within found_at is =
        elim (cases_lt i n) [
          | inl below ↦ member_longer trail (next ∷ []) q.1 (before i q below found_at is)
          | inr past ↦
              let same_place : i ≡ n = omega (arith, past, within) in
              let same : p ≡ q = same_pair q (subst (λ (k : ℕ). slice_get pairs k ≡ Some q) same_place found_at) in
              subst (λ (x : ℕ × ℕ). is_member x.1 (nodes (trail ++ next ∷ [])) ≡ true) same
              (ap (is_member p.1) (nodes_pushed pairs trail next fresh) ∙ pushed_member p.1 (nodes trail))
        ]

  -- it leads nowhere new
  pub covered_same : (nat_eq a p.0 && not (list_any (λ r. nat_eq p.1 r.txn) trail)) ≡ false
      → ((i : ℕ) (q : ℕ × ℕ) → i < n → slice_get pairs i ≡ Some q → a ≡ q.0 → is_member q.1 (nodes trail) ≡ true)
      → (i : ℕ) (q : ℕ × ℕ) → i < n + 1 → slice_get pairs i ≡ Some q → a ≡ q.0 → is_member q.1 (nodes trail) ≡ true
  covered_same leads before i q within found_at is =
      elim (cases_lt i n) [
        | inl below ↦ before i q below found_at is
        | inr past ↦
            let same_place : i ≡ n = omega (arith, past, within) in
            let same : p ≡ q = same_pair q (subst (λ (k : ℕ). slice_get pairs k ≡ Some q) same_place found_at) in
            let mine : nat_eq a p.0 ≡ true = eq-eqb a p.0 (is ∙ ap (λ (x : ℕ × ℕ). x.0) (sym same)) in
            subst (λ (x : ℕ × ℕ). is_member x.1 (nodes trail) ≡ true) same
            (sym (any-map (λ (r : Reached). r.txn) p.1 trail) ∙ by (nat_eq a p.0) (list_any (λ r. nat_eq p.1 r.txn) trail) mine leads)
      ]
    where
      by : (x y : Bool) → x ≡ true → (x && not y) ≡ false → y ≡ true
      by true true e f = refl
      by true false e f = absurd (true≢false f)
      by false y e f = absurd (false≢true e)
