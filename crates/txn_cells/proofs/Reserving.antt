-- The child's keys that the parent has a place for, one more after each step.
use Rattle.std.proofs.Common.{◌≡◌, ℕ, zero, suc, Bool, true, false, cond, ◌||◌, ◌&&◌, nat_eq, List, [], ◌∷◌, ◌++◌, take, Option, Some, None, is_some, unwrap_or, inl, inr, refl, sym, ap, ◌∙◌, true≢false}
use Rattle.std.proofs.Math.Bool.{or-false}
use Rattle.std.specs.Prelude.{slice_get}
use Rattle.std.specs.List.{list_any}
use Rattle.std.specs.Map.{lookup, keys_of}
use Rattle.std.proofs.lemmas.Bool.{false≢true, or_cases, or_left, or_right, and_parts}
use Rattle.std.proofs.lemmas.List.Folds.{list_any-append}
use Rattle.std.proofs.lemmas.Cmp.{nat_list_eq_equiv}
use Rattle.txn_names.specs.Path.{label_eq}
use Rattle.txn_names.proofs.Exports.{label_eq_self}
use Rattle.txn_cells.specs.Cells.{IsTowards, with_childs, with_place}

-- a look-up finds what stands under one of the keys
pub found_by_key : {K X : Type 0} (test : K → Bool) (es : List (K × X)) → is_some (lookup test es) ≡ list_any test (keys_of es)
found_by_key test [] = refl
found_by_key test (e ∷ es) = by (test e.0) (found_by_key test es)
  where
    by : (b : Bool) → is_some (lookup test es) ≡ list_any test (keys_of es) → is_some (cond b (Some e.1) (lookup test es)) ≡ (b || list_any test (keys_of es))
    by true rest = refl
    by false rest = rest

-- nothing stands where there is no cell
pub nothing_there : {V : Type 0} (o : Option (Option V)) → is_some o ≡ false → unwrap_or o None ≡ None
nothing_there None e = refl
nothing_there (Some v) e = absurd (true≢false e)

-- a key is among those gone through, or is the next
pub among_more : (q k : List ℕ) (keys : List (List ℕ)) → list_any (label_eq q) (keys ++ k ∷ []) ≡ (list_any (label_eq q) keys || label_eq k q)
among_more q k keys =
    list_any-append (label_eq q) keys (k ∷ [])
    ∙ ap (λ b. list_any (label_eq q) keys || b) (or-false (label_eq q k) ∙ nat_list_eq_equiv.symm q k)

-- the keys gone through are among all
pub among_all : (q : List ℕ) (n : ℕ) (keys : List (List ℕ)) → list_any (label_eq q) (take n keys) ≡ true → list_any (label_eq q) keys ≡ true
among_all q zero keys e = absurd (false≢true e)
among_all q (suc n) [] e = e
among_all q (suc n) (k ∷ keys) e =
    elim (or_cases (label_eq q k) (list_any (label_eq q) (take n keys)) e) [
      | inl here ↦ or_left (label_eq q k) (list_any (label_eq q) keys) here
      | inr later ↦ or_right (label_eq q k) (list_any (label_eq q) keys) (among_all q n keys later)
    ]

pub among_at : (n : ℕ) (k : List ℕ) (keys : List (List ℕ)) → slice_get keys n ≡ Some k → list_any (label_eq k) keys ≡ true
among_at n k [] at = absurd (false≢true (ap is_some at))
among_at zero k (x ∷ keys) at = or_left (label_eq k x) (list_any (label_eq k) keys) (ap (λ o. label_eq k (unwrap_or o x)) at ∙ label_eq_self k)
among_at (suc n) k (x ∷ keys) at = or_right (label_eq k x) (list_any (label_eq k) keys) (among_at n k keys at)

-- where there are places, once the parent has one at each of these keys
abbrev pub with_keys : (ℕ → List ℕ → Bool) → ℕ → List (List ℕ) → ℕ → List ℕ → Bool
with_keys place parent keys u q = (nat_eq parent u && list_any (label_eq q) keys) || place u q

module _ (place : ℕ → List ℕ → Bool) (parent : ℕ) (keys : List (List ℕ)) where
  pub with_none : (u : ℕ) (q : List ℕ) → place u q ≡ with_keys place parent [] u q
  with_none u q = by (nat_eq parent u)
    where
      by : (b : Bool) → place u q ≡ ((b && false) || place u q)
      by true = refl
      by false = refl

  pub with_next : (k : List ℕ) (now : ℕ → List ℕ → Bool) → ((u : ℕ) (q : List ℕ) → now u q ≡ with_keys place parent keys u q)
      → (u : ℕ) (q : List ℕ) → with_place now parent k u q ≡ with_keys place parent (keys ++ k ∷ []) u q
  with_next k now is u q =
      ap (λ b. (nat_eq parent u && label_eq k q) || b) (is u q)
      ∙ by (nat_eq parent u) (label_eq k q) (list_any (label_eq q) keys) (place u q)
      ∙ ap (λ b. (nat_eq parent u && b) || place u q) (sym (among_more q k keys))
    where
      by : (p x a h : Bool) → ((p && x) || ((p && a) || h)) ≡ ((p && (a || x)) || h)
      by true true true h = refl
      by true true false h = refl
      by true false true h = refl
      by true false false h = refl
      by false x a h = refl

  module _ (child : ℕ) (each : (q : List ℕ) → place child q ≡ list_any (label_eq q) keys) where
    pub with_all : (u : ℕ) (q : List ℕ) → with_keys place parent keys u q ≡ with_childs place child parent u q
    with_all u q = ap (λ b. (nat_eq parent u && b) || place u q) (sym (each q))

    pub towards : (now : ℕ → List ℕ → Bool) (n : ℕ) → ((u : ℕ) (q : List ℕ) → now u q ≡ with_keys place parent (take n keys) u q) → IsTowards place now child parent
    towards now n is = record {
      kept = λ u q there. is u q ∙ or_right (nat_eq parent u && list_any (label_eq q) (take n keys)) (place u q) there;
      added = λ u q there. more u q (sym (is u q) ∙ there);
    }
      where
        more : (u : ℕ) (q : List ℕ) → with_keys place parent (take n keys) u q ≡ true → with_childs place child parent u q ≡ true
        more u q e =
            elim (or_cases (nat_eq parent u && list_any (label_eq q) (take n keys)) (place u q) e) [
              | inl new ↦
                  let parts = and_parts (nat_eq parent u) (list_any (label_eq q) (take n keys)) new in
                  sym (with_all u q) ∙ ap (λ b. (b && list_any (label_eq q) keys) || place u q) parts.0
                  ∙ or_left (list_any (label_eq q) keys) (place u q) (among_all q n keys parts.1)
              | inr old ↦ or_right (nat_eq parent u && place child q) (place u q) old
            ]

    -- where all places are there, the parent has one at the next key too
    pub there_already : ((q : List ℕ) → place child q ≡ true → place parent q ≡ true) → (now : ℕ → List ℕ → Bool) (n : ℕ)
        → ((u : ℕ) (q : List ℕ) → now u q ≡ with_keys place parent (take n keys) u q) → (i : ℕ) (k : List ℕ) → slice_get keys i ≡ Some k → now parent k ≡ true
    there_already all now n is i k at =
        is parent k ∙ or_right (nat_eq parent parent && list_any (label_eq k) (take n keys)) (place parent k) (all k (each k ∙ among_at i k keys at))
