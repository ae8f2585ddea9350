-- Cycles of numbers and cycles of names are the same.
use Rattle.std.proofs.Common.{◌≡◌, ◌≤◌, ℕ, nat_eq, Bool, true, false, not, List, [], ◌∷◌, ◌++◌, append_assoc, map, Option, Some, unwrap_or, inl, inr, refl, sym, ap, subst, ◌∙◌, true≢false}
use Rattle.std.specs.Prelude.{slice_get}
use Rattle.std.specs.List.{list_any}
use Rattle.std.proofs.lemmas.Bool.{false≢true, eqb-true, eq-eqb, or_cases, or_left, or_right, and_parts, and_from, not-true}
use Rattle.txn_names.specs.Path.{path_eq}
use Rattle.txn_names.proofs.Exports.{path_eq_self, same_path}
use Rattle.serial_spec.specs.History.{Name, History}
use Rattle.serial_spec.specs.Waits.{OnCycle, number, waits_for}
use Rattle.serial_spec.specs.Waits as by_name
use Rattle.wait_cycles.specs.Cycles.{Pairs, IsCycle, WaitInTurn, is_distinct, is_member, waits_in}
use Rattle.wait_cycles.specs.Agreement.{Agree, AreWaits, CyclesAgree}
use Rattle.wait_cycles.proofs.Lists.{distinct_push, member_here}

-- ---- a cycle begun anywhere on it

module _ (pairs : Pairs) where
  turn_push : (a : ℕ) (xs : List ℕ) (b c : ℕ) → WaitInTurn pairs a xs b → waits_in pairs b c ≡ true → WaitInTurn pairs a (xs ++ b ∷ []) c
  turn_push a [] b c turn waits = (turn, waits)
  turn_push a (x ∷ xs) b c turn waits = (turn.0, turn_push x xs b c turn.1 waits)

  turned : (x : ℕ) (zs : List ℕ) → IsCycle pairs (x ∷ zs) → IsCycle pairs (zs ++ x ∷ [])
  turned x [] cycle = cycle
  turned x (y ∷ ys) cycle =
      let parts = and_parts (not (is_member x (y ∷ ys))) (is_distinct (y ∷ ys)) cycle.0 in
      (distinct_push x (y ∷ ys) parts.1 (not-true (is_member x (y ∷ ys)) parts.0), turn_push y ys x y cycle.1.1 cycle.1.0)

  from_behind : (front : List ℕ) (a : ℕ) (back : List ℕ) → IsCycle pairs (front ++ a ∷ back) → (ys : List ℕ) × IsCycle pairs (a ∷ ys)
  from_behind [] a back cycle = (back, cycle)
  from_behind (x ∷ front) a back cycle =
      from_behind front a (back ++ x ∷ []) (subst (λ (xs : List ℕ). IsCycle pairs xs) (append_assoc front (a ∷ back) (x ∷ [])) (turned x (front ++ a ∷ back) cycle))

  parted : (a : ℕ) (xs : List ℕ) → is_member a xs ≡ true → (front : List ℕ) × (back : List ℕ) × (xs ≡ front ++ a ∷ back)
  parted a [] e = absurd (false≢true e)
  parted a (x ∷ xs) e =
      elim (or_cases (nat_eq a x) (is_member a xs) e) [
        | inl here ↦ ([], xs, ap (λ (y : ℕ). y ∷ xs) (sym (eqb-true a x here)))
        | inr later ↦ let p = parted a xs later in (x ∷ p.0, p.1, ap (λ (ys : List ℕ). x ∷ ys) p.2)
      ]

  pub begun_there : (a : ℕ) (xs : List ℕ) → is_member a xs ≡ true → IsCycle pairs xs → (ys : List ℕ) × IsCycle pairs (a ∷ ys)
  begun_there a xs e cycle = let p = parted a xs e in from_behind p.0 a p.1 (subst (λ (ys : List ℕ). IsCycle pairs ys) p.2 cycle)

-- ---- from numbers to names, and back

module _ (h : History) (names : List Name) (pairs : Pairs) (are : AreWaits h names pairs) where
  abbrev name_at : ℕ → Name
  name_at a = unwrap_or (slice_get names a) []

  named : (a : ℕ) (t : Name) → slice_get names a ≡ Some t → name_at a ≡ t
  named a t at = ap (λ (o : Option Name). unwrap_or o []) at

  -- it has the number
  abbrev HasNumber : ℕ → Type 0
  HasNumber a = slice_get names a ≡ Some (name_at a)

  has_number : (a : ℕ) (t : Name) → slice_get names a ≡ Some t → HasNumber a
  has_number a t at = at ∙ ap Some (sym (named a t at))

  waits_named : (a b : ℕ) → waits_in pairs a b ≡ true → waits_for h (name_at a) (name_at b) ≡ true
  waits_named a b e =
      let s = are.sound a b e in
      ap (λ (t : Name). waits_for h t (name_at b)) (named a s.0 s.2) ∙ ap (λ (u : Name). waits_for h s.0 u) (named b s.1 s.3) ∙ s.4

  turn_named : (a : ℕ) (xs : List ℕ) (b : ℕ) → WaitInTurn pairs a xs b → by_name.WaitInTurn h (name_at a) (map name_at xs) (name_at b)
  turn_named a [] b turn = waits_named a b turn
  turn_named a (x ∷ xs) b turn = (waits_named a x turn.0, turn_named x xs b turn.1)

  all_have : (a : ℕ) (xs : List ℕ) (b : ℕ) → WaitInTurn pairs a xs b → (c : ℕ) → is_member c (a ∷ xs) ≡ true → HasNumber c
  all_have a [] b turn c e =
      elim (or_cases (nat_eq c a) false e) [
        | inl here ↦ let s = are.sound a b turn in subst (λ (x : ℕ). HasNumber x) (sym (eqb-true c a here)) (has_number a s.0 s.2)
        | inr later ↦ absurd (false≢true later)
      ]
  all_have a (x ∷ xs) b turn c e =
      elim (or_cases (nat_eq c a) (is_member c (x ∷ xs)) e) [
        | inl here ↦ let s = are.sound a x turn.0 in subst (λ (y : ℕ). HasNumber y) (sym (eqb-true c a here)) (has_number a s.0 s.2)
        | inr later ↦ all_have x xs b turn.1 c later
      ]

  apart_named : (a : ℕ) (xs : List ℕ) → HasNumber a → ((c : ℕ) → is_member c xs ≡ true → HasNumber c) → list_any (path_eq (name_at a)) (map name_at xs) ≡ true → is_member a xs ≡ true
  apart_named a [] here have e = absurd (false≢true e)
  apart_named a (x ∷ xs) here have e =
      elim (or_cases (path_eq (name_at a) (name_at x)) (list_any (path_eq (name_at a)) (map name_at xs)) e) [
        | inl same ↦
            let numbered : a ≡ x = sym (are.numbered a (name_at a) here) ∙ ap (number h) (same_path (name_at a) (name_at x) same) ∙ are.numbered x (name_at x) (have x (member_here x xs)) in
            or_left (nat_eq a x) (is_member a xs) (eq-eqb a x numbered)
        | inr later ↦ or_right (nat_eq a x) (is_member a xs) (apart_named a xs here (λ c m. have c (or_right (nat_eq c x) (is_member c xs) m)) later)
      ]

  distinct_named : (xs : List ℕ) → ((c : ℕ) → is_member c xs ≡ true → HasNumber c) → is_distinct xs ≡ true → by_name.is_distinct (map name_at xs) ≡ true
  distinct_named [] have d = refl
  distinct_named (a ∷ xs) have d =
      let parts = and_parts (not (is_member a xs)) (is_distinct xs) d in
      let later = λ (c : ℕ) (m : is_member c xs ≡ true). have c (or_right (nat_eq c a) (is_member c xs) m) in
      and_from (not (list_any (path_eq (name_at a)) (map name_at xs))) (by_name.is_distinct (map name_at xs))
      (fresh (list_any (path_eq (name_at a)) (map name_at xs)) refl (not-true (is_member a xs) parts.0) later)
      (distinct_named xs later parts.1)
    where
      fresh : (b : Bool) → list_any (path_eq (name_at a)) (map name_at xs) ≡ b → is_member a xs ≡ false → ((c : ℕ) → is_member c xs ≡ true → HasNumber c)
          → not (list_any (path_eq (name_at a)) (map name_at xs)) ≡ true
      fresh true e off later = absurd (true≢false (sym (apart_named a xs (have a (member_here a xs)) later e) ∙ off))
      fresh false e off later = ap not e

  named_cycle : (a : ℕ) (ys : List ℕ) → IsCycle pairs (a ∷ ys) → (t : Name) × (slice_get names a ≡ Some t) × OnCycle h t
  named_cycle a ys cycle =
      let have = all_have a ys a cycle.1 in
      (name_at a, have a (member_here a ys), (map name_at ys, distinct_named (a ∷ ys) have cycle.0, turn_named a ys a cycle.1))

  -- ---- back

  numbered_waits : (t u : Name) → waits_for h t u ≡ true → waits_in pairs (number h t) (number h u) ≡ true
  numbered_waits t u e =
      let w = are.whole t u e in
      ap (λ (x : ℕ). waits_in pairs x (number h u)) (are.numbered w.0 t w.2) ∙ ap (λ (x : ℕ). waits_in pairs w.0 x) (are.numbered w.1 u w.3) ∙ w.4

  turn_numbered : (t : Name) (ts : List Name) (u : Name) → by_name.WaitInTurn h t ts u → WaitInTurn pairs (number h t) (map (number h) ts) (number h u)
  turn_numbered t [] u turn = numbered_waits t u turn
  turn_numbered t (x ∷ ts) u turn = (numbered_waits t x turn.0, turn_numbered x ts u turn.1)

  -- its number leads back to it
  abbrev HasName : Name → Type 0
  HasName t = name_at (number h t) ≡ t

  has_name : (t u : Name) → waits_for h t u ≡ true → HasName t
  has_name t u e = let w = are.whole t u e in ap name_at (are.numbered w.0 t w.2) ∙ named w.0 t w.2

  abbrev is_named : Name → List Name → Bool
  is_named t ts = list_any (path_eq t) ts

  all_named : (t : Name) (ts : List Name) (u : Name) → by_name.WaitInTurn h t ts u → (v : Name) → is_named v (t ∷ ts) ≡ true → HasName v
  all_named t [] u turn v e =
      elim (or_cases (path_eq v t) false e) [
        | inl here ↦ subst (λ (x : Name). HasName x) (sym (same_path v t here)) (has_name t u turn)
        | inr later ↦ absurd (false≢true later)
      ]
  all_named t (x ∷ ts) u turn v e =
      elim (or_cases (path_eq v t) (is_named v (x ∷ ts)) e) [
        | inl here ↦ subst (λ (y : Name). HasName y) (sym (same_path v t here)) (has_name t x turn.0)
        | inr later ↦ all_named x ts u turn.1 v later
      ]

  apart_numbered : (t : Name) (ts : List Name) → HasName t → ((v : Name) → is_named v ts ≡ true → HasName v) → is_member (number h t) (map (number h) ts) ≡ true → is_named t ts ≡ true
  apart_numbered t [] here have e = absurd (false≢true e)
  apart_numbered t (x ∷ ts) here have e =
      elim (or_cases (nat_eq (number h t) (number h x)) (is_member (number h t) (map (number h) ts)) e) [
        | inl same ↦
            let alike : t ≡ x = sym here ∙ ap name_at (eqb-true (number h t) (number h x) same) ∙ have x (or_left (path_eq x x) (is_named x ts) (path_eq_self x)) in
            or_left (path_eq t x) (is_named t ts) (subst (λ (y : Name). path_eq t y ≡ true) alike (path_eq_self t))
        | inr later ↦ or_right (path_eq t x) (is_named t ts) (apart_numbered t ts here (λ v m. have v (or_right (path_eq v x) (is_named v ts) m)) later)
      ]

  distinct_numbered : (ts : List Name) → ((v : Name) → is_named v ts ≡ true → HasName v) → by_name.is_distinct ts ≡ true → is_distinct (map (number h) ts) ≡ true
  distinct_numbered [] have d = refl
  distinct_numbered (t ∷ ts) have d =
      let parts = and_parts (not (is_named t ts)) (by_name.is_distinct ts) d in
      let later = λ (v : Name) (m : is_named v ts ≡ true). have v (or_right (path_eq v t) (is_named v ts) m) in
      and_from (not (is_member (number h t) (map (number h) ts))) (is_distinct (map (number h) ts))
      (fresh (is_member (number h t) (map (number h) ts)) refl (not-true (is_named t ts) parts.0) later)
      (distinct_numbered ts later parts.1)
    where
      fresh : (b : Bool) → is_member (number h t) (map (number h) ts) ≡ b → is_named t ts ≡ false → ((v : Name) → is_named v ts ≡ true → HasName v)
          → not (is_member (number h t) (map (number h) ts)) ≡ true
      fresh true e off later = absurd (true≢false (sym (apart_numbered t ts (have t (or_left (path_eq t t) (is_named t ts) (path_eq_self t))) later e) ∙ off))
      fresh false e off later = ap not e

  pub numbered_cycle : (t : Name) (on : OnCycle h t) → IsCycle pairs (number h t ∷ map (number h) on.0)
  numbered_cycle t on = (distinct_numbered (t ∷ on.0) (all_named t on.0 t on.2) on.1, turn_numbered t on.0 t on.2)

  agree : Agree h names pairs
  agree = record {
    by_numbers = λ xs cycle a member. let ys = begun_there pairs a xs member cycle in named_cycle a ys.0 ys.1;
    by_names = λ t on. (number h t ∷ map (number h) on.0, numbered_cycle t on, member_here (number h t) (map (number h) on.0));
    quiet = λ none t on. none (number h t ∷ map (number h) on.0) (numbered_cycle t on);
    victim = λ a last.
        let ys = begun_there pairs a last.through.0 last.through.2 last.through.1 in
        let n = named_cycle a ys.0 ys.1 in (
          n.0,
          n.1,
          (
            ∣ n.2 ∣₁,
            λ u on. subst (λ (x : ℕ). number h u ≤ x) (sym (are.numbered a n.0 n.1))
                (last.last (number h u ∷ map (number h) on.0) (numbered_cycle u on) (number h u) (member_here (number h u) (map (number h) on.0))),
          ),
        );
  }

pub cycles_agree : CyclesAgree
cycles_agree = agree
