-- Rising numbers: the holders of a key, and those that are marked.
use Rattle.std.proofs.Common.{◌≡◌, ℕ, zero, suc, ◌<◌, ◌≤◌, Bool, true, false, cond, not, nat_eq, ◌&&◌, ◌||◌, filter, List, [], ◌∷◌, length, length-take, get_or, take, Some, unwrap_or, is_some, Result, Ok, Err, inl, inr, refl, sym, ap, subst, ◌∙◌, arith}
use Rattle.std.specs.Prelude.{insert, remove, slice_get, slice_index_or}
use Rattle.std.specs.List.{list_any, IsDistinct, AllByRecursion}
use Rattle.std.specs.List.Sorted.{IsBinarySearchResult, IsStrictlyIncreasing}
use Rattle.std.specs.Ordering.{nat_cmp}
use Rattle.std.specs.Result.{MatchResult}
use Rattle.std.proofs.lemmas.Bool.{cases_lt, eq-eqb, eqb-true, false≢true, ne_eqb, or_cases, or_left, or_parts, or_right}
use Rattle.std.proofs.lemmas.Cmp.{nat_eq_equiv}
use Rattle.std.proofs.lemmas.List.{get_or-take, get_or_default}
use Rattle.std.proofs.lemmas.Option.{get_or_from_slice_get, slice_get_within}
use Rattle.std.proofs.lemmas.List.Kept.{IsStrictlyIncreasing-filter}
use Rattle.std.proofs.lemmas.List.Sorted.{IsPermutation-insert, IsNonDecreasingBy-insert, list_any-IsPermutation, searched}
use Rattle.std.proofs.lemmas.Map.Made.{length-le_from_is_member}
use Rattle.std.proofs.lemmas.Map.Views.{any-filter_same}
use Rattle.std.proofs.lemmas.Map.Keys.{IsDistinct-IsPermutation, IsDistinct-cons, IsDistinct-from_apart, IsStrictlyIncreasing-from_distinct, sorted_from_strictly_increasing, non_decreasing_from_sorted, below_from_sorted}

eqb_comm : (a b : ℕ) → nat_eq a b ≡ nat_eq b a
eqb_comm = nat_eq_equiv.symm

-- ---- rising numbers

-- no number is one that is not among them
absent : (t : ℕ) (xs : List ℕ) → list_any (nat_eq t) xs ≡ false → AllByRecursion (λ y. nat_eq t y ≡ false) xs
absent t [] e = tt
absent t (x ∷ xs) e = let parts = or_parts (nat_eq t x) (list_any (nat_eq t) xs) e in (parts.0, absent t xs parts.1)

pub distinct : (xs : List ℕ) → IsStrictlyIncreasing xs → IsDistinct nat_eq xs
distinct xs rising =
    IsDistinct-from_apart nat_eq xs (λ i j d before within.
    let below = below_from_sorted xs i j d (sorted_from_strictly_increasing xs rising) before within in
    ne_eqb _ _ (λ same. omega (arith, below, same)))

-- a number that is put where it belongs
pub rising_insert : (xs : List ℕ) (t i : ℕ) → IsStrictlyIncreasing xs → list_any (nat_eq t) xs ≡ false → i ≤ length xs
    → ((k : ℕ) (d : ℕ) → k < i → slice_index_or xs k d < t) → ((k : ℕ) (d : ℕ) → i ≤ k → k < length xs → t ≤ slice_index_or xs k d)
    → IsStrictlyIncreasing (insert xs i t)
rising_insert xs t i rising none within below from =
    IsStrictlyIncreasing-from_distinct (insert xs i t)
    (IsNonDecreasingBy-insert (λ x. x) xs i t (non_decreasing_from_sorted xs (sorted_from_strictly_increasing xs rising)) within
    (λ k d h. let less = below k d h in omega (arith, less)) from)
    (IsDistinct-IsPermutation nat_eq eqb_comm (t ∷ xs) (insert xs i t) (IsPermutation-insert xs i t) (IsDistinct-cons nat_eq t xs (absent t xs none) (distinct xs rising)))

pub any-insert : (xs : List ℕ) (t i u : ℕ) → list_any (nat_eq u) (insert xs i t) ≡ (nat_eq t u || list_any (nat_eq u) xs)
any-insert xs t i u =
    sym (list_any-IsPermutation (nat_eq u) (t ∷ xs) (insert xs i t) (IsPermutation-insert xs i t))
    ∙ ap (λ b. b || list_any (nat_eq u) xs) (eqb_comm u t)

-- ---- a number that is taken out

pub any-without : (xs : List ℕ) (t u : ℕ) → list_any (nat_eq u) (filter (λ v. not (nat_eq v t)) xs) ≡ (not (nat_eq t u) && list_any (nat_eq u) xs)
any-without xs t u =
    any-filter_same (nat_eq u) (λ v. not (nat_eq v t)) (not (nat_eq t u)) (λ k same. ap not (ap (λ v. nat_eq v t) (sym (eqb-true u k same)) ∙ eqb_comm u t)) xs

-- a number that is at no place is not among them
pub not_among : (t : ℕ) (xs : List ℕ) → ((k : ℕ) → k < length xs → get_or xs k 0 ≡ t → ⊥) → list_any (nat_eq t) xs ≡ false
not_among t [] other = refl
not_among t (x ∷ xs) other =
    ap (λ b. b || list_any (nat_eq t) xs) (ne_eqb t x (λ same. other 0 (omega arith) (sym same)))
    ∙ not_among t xs (λ k less. other (suc k) (omega (arith, less)))

-- where it is not there, all stay
keeps_all : (t : ℕ) (xs : List ℕ) → ((k : ℕ) → k < length xs → get_or xs k 0 ≡ t → ⊥) → filter (λ v. not (nat_eq v t)) xs ≡ xs
keeps_all t [] other = refl
keeps_all t (x ∷ xs) other =
    ap (λ b. cond (not b) (x ∷ filter (λ v. not (nat_eq v t)) xs) (filter (λ v. not (nat_eq v t)) xs)) (ne_eqb x t (other 0 (omega arith)))
    ∙ ap (λ ys. x ∷ ys) (keeps_all t xs (λ k less. other (suc k) (omega (arith, less))))

pub removed : (xs : List ℕ) (t i : ℕ) → ((j k : ℕ) → j < k → k < length xs → get_or xs j 0 < get_or xs k 0) → i < length xs → get_or xs i 0 ≡ t
    → remove xs i ≡ filter (λ v. not (nat_eq v t)) xs
removed [] t i rises within at = absurd (omega (arith, within))
removed (x ∷ xs) t zero rises within at =
    sym
    (ap (λ b. cond (not b) (x ∷ filter (λ v. not (nat_eq v t)) xs) (filter (λ v. not (nat_eq v t)) xs)) (eq-eqb x t at)
    ∙ keeps_all t xs (λ k less same. let up = rises 0 (suc k) (omega arith) (omega (arith, less)) in omega (arith, up, at, same)))
removed (x ∷ xs) t (suc i) rises within at =
    ap (λ ys. x ∷ ys) (removed xs t i (λ j k less past. rises (suc j) (suc k) (omega (arith, less)) (omega (arith, past))) (omega (arith, within)) at)
    ∙ sym (ap (λ b. cond (not b) (x ∷ filter (λ v. not (nat_eq v t)) xs) (filter (λ v. not (nat_eq v t)) xs))
    (ne_eqb x t (λ same. let up = rises 0 (suc i) (omega arith) within in omega (arith, up, at, same))))

module _ (xs : List ℕ) (t : ℕ) (rising : IsStrictlyIncreasing xs) where
  pub rises : (j k : ℕ) → j < k → k < length xs → get_or xs j 0 < get_or xs k 0
  rises j k less within = below_from_sorted xs j k 0 (sorted_from_strictly_increasing xs rising) less within

  never_falls : (j k : ℕ) → j ≤ k → k < length xs → get_or xs j 0 ≤ get_or xs k 0
  never_falls j k le within =
      elim (cases_lt j k) [
        | inl less ↦ let up = rises j k less within in omega (arith, up)
        | inr past ↦ let same : j ≡ k = omega (arith, le, past) in let e = ap (λ (n : ℕ). get_or xs n 0) same in omega (arith, e)
      ]

  pub taken : (r : Result ℕ ℕ) → IsBinarySearchResult (λ y. nat_cmp y t) xs r → (i : ℕ) → r ≡ Ok i → (i < length xs) × (remove xs i ≡ filter (λ v. not (nat_eq v t)) xs)
  taken r is i e =
      let found = subst (λ (o : Result ℕ ℕ). MatchResult o (λ n. (n < length xs) × (get_or xs n 0 ≡ t)) (λ n. (n ≤ length xs) × ((k : ℕ) → k < n → get_or xs k 0 < t) × ((k : ℕ) → n ≤ k → k < length xs → t < get_or xs k 0))) e
      (searched xs t r is never_falls) in
      (found.0, removed xs t i rises found.0 found.1)

  pub not_taken : (r : Result ℕ ℕ) → IsBinarySearchResult (λ y. nat_cmp y t) xs r → (i : ℕ) → r ≡ Err i → xs ≡ filter (λ v. not (nat_eq v t)) xs
  not_taken r is i e =
      let found = subst (λ (o : Result ℕ ℕ). MatchResult o (λ n. (n < length xs) × (get_or xs n 0 ≡ t)) (λ n. (n ≤ length xs) × ((k : ℕ) → k < n → get_or xs k 0 < t) × ((k : ℕ) → n ≤ k → k < length xs → t < get_or xs k 0))) e
      (searched xs t r is never_falls) in
      sym (keeps_all t xs (λ k within same.
      elim (cases_lt k i) [
        | inl before ↦ let less = found.1 k before in omega (arith, less, same)
        | inr past ↦ let more = found.2 k past within in omega (arith, more, same)
      ]))

  -- where the search ends without it
  module _ (i : ℕ) (is : IsBinarySearchResult (λ y. nat_cmp y t) xs (Err i)) where
    ends : (i ≤ length xs) × ((k : ℕ) → k < i → get_or xs k 0 < t) × ((k : ℕ) → i ≤ k → k < length xs → t < get_or xs k 0)
    ends = searched xs t (Err i) is never_falls

    pub absent_at : list_any (nat_eq t) xs ≡ false
    absent_at =
        not_among t xs (λ k within same.
        elim (cases_lt k i) [
          | inl before ↦ let less = ends.1 k before in omega (arith, less, same)
          | inr past ↦ let more = ends.2 k past within in omega (arith, more, same)
        ])

    pub rising_at : IsStrictlyIncreasing (insert xs i t)
    rising_at =
        rising_insert xs t i rising absent_at ends.0
        (λ k d before. let less = ends.1 k before in omega (arith, less, ends.0, get_or_default xs k d 0 (omega (arith, before, ends.0))))
        (λ k d since within. let more = ends.2 k since within in omega (arith, more, get_or_default xs k d 0 within))

-- there is room for one that is not among them yet
pub one_fits : (some all : List ℕ) (t : ℕ) → IsStrictlyIncreasing some → ((u : ℕ) → list_any (nat_eq u) some ≡ true → list_any (nat_eq u) all ≡ true)
    → list_any (nat_eq t) all ≡ true → list_any (nat_eq t) some ≡ false → length some < length all
one_fits some all t rising within there fresh =
    let most = length-le_from_is_member nat_eq_equiv (t ∷ some) all (IsDistinct-cons nat_eq t some (absent t some fresh) (distinct some rising)) (λ q e.
    elim (or_cases (nat_eq q t) (list_any (nat_eq q) some) e) [
      | inl same ↦ subst (λ (v : ℕ). list_any (nat_eq v) all ≡ true) (sym (eqb-true q t same)) there
      | inr before ↦ within q before
    ]) in
    omega (arith, most)

-- the number at a place is taken out
module _ (xs : List ℕ) (t i : ℕ) (rising : IsStrictlyIncreasing xs) (at : slice_get xs i ≡ Some t) where
  taken_at : remove xs i ≡ filter (λ v. not (nat_eq v t)) xs
  taken_at = removed xs t i (rises xs t rising) (slice_get_within xs i t at) (get_or_from_slice_get xs i t 0 at)

  pub rising_without : IsStrictlyIncreasing (remove xs i)
  rising_without = subst (λ (ys : List ℕ). IsStrictlyIncreasing ys) (sym taken_at) (IsStrictlyIncreasing-filter (λ v. not (nat_eq v t)) xs rising)

  pub any-taken : (u : ℕ) → list_any (nat_eq u) (remove xs i) ≡ (not (nat_eq t u) && list_any (nat_eq u) xs)
  any-taken u = ap (list_any (nat_eq u)) taken_at ∙ any-without xs t u

  -- it is not among those before it
  pub none_before : list_any (nat_eq t) (take i xs) ≡ false
  none_before =
      not_among t (take i xs) (λ k less same.
      let within = slice_get_within xs i t at in
      let before : k < i = omega (arith, less, length-take i xs) in
      let up = rises xs t rising k i before within in
      omega (arith, up, get_or-take i xs k 0 before, same, get_or_from_slice_get xs i t 0 at))

-- no more pass than there are
pub fewer_pass : (p : ℕ → Bool) (xs : List ℕ) → length (filter p xs) ≤ length xs
fewer_pass p [] = omega arith
fewer_pass p (x ∷ xs) = by (p x) (fewer_pass p xs)
  where
    by : (b : Bool) → length (filter p xs) ≤ length xs → length (cond b (x ∷ filter p xs) (filter p xs)) ≤ length (x ∷ xs)
    by true le = omega (arith, le)
    by false le = omega (arith, le)

-- membership, asked the other way round
pub contained : (xs : List ℕ) (t : ℕ) → list_any (λ y. nat_eq y t) xs ≡ list_any (nat_eq t) xs
contained [] t = refl
contained (x ∷ xs) t = ap (λ b. b || list_any (λ y. nat_eq y t) xs) (eqb_comm x t) ∙ ap (λ b. nat_eq t x || b) (contained xs t)

pub cond_with : (a b c : Bool) → cond a (b || c) c ≡ ((b && a) || c)
cond_with true true c = refl
cond_with true false c = refl
cond_with false true c = refl
cond_with false false c = refl

pub cond_without : (a b c : Bool) → cond a (not b && c) c ≡ (not (b && a) && c)
cond_without true true c = refl
cond_without true false c = refl
cond_without false true c = refl
cond_without false false c = refl

-- one at a place is among them
pub any_at : (xs : List ℕ) (t i : ℕ) → slice_get xs i ≡ Some t → list_any (nat_eq t) xs ≡ true
any_at [] t i at = absurd (false≢true (ap is_some at))
any_at (x ∷ xs) t zero at = or_left (nat_eq t x) (list_any (nat_eq t) xs) (eq-eqb t x (sym (ap (λ o. unwrap_or o t) at)))
any_at (x ∷ xs) t (suc i) at = or_right (nat_eq t x) (list_any (nat_eq t) xs) (any_at xs t i at)
