-- First children and next siblings, one transaction earlier, and the children along them.
use Rattle.std.proofs.Common.{◌≡◌, ℕ, zero, suc, ◌+◌, ◌-◌, ◌<◌, ◌≤◌, Bool, true, false, cond, List, [], ◌∷◌, ◌++◌, length, get_or, drop, Option, Some, None, is_some, unwrap_or, inl, inr, refl, sym, ap, subst, ◌∙◌, arith, true≢false}
use Rattle.std.proofs.lemmas.Bool.{cases_eq, eq-eqb, ne_eqb}
use Rattle.std.specs.Prelude.{nat_eq, slice_get}
use Rattle.indexmap.specs.IndexMap.{get}
use Rattle.report_trees.specs.inner.Linked.{IsLinkedFrom, first_at}
use Rattle.report_trees.specs.declared.links.Links.{Links}

pub drop_at : {X : Type 0} (xs : List X) (n : ℕ) (x : X) → slice_get xs n ≡ Some x → drop n xs ≡ x ∷ drop (suc n) xs
drop_at [] n x at = absurd (true≢false (sym (ap is_some at)))
drop_at (y ∷ ys) zero x at = ap (λ o. unwrap_or o y ∷ ys) at
drop_at (y ∷ ys) (suc n) x at = drop_at ys n x at

pub same_some : {X : Type 0} (x y : X) → Some x ≡ Some y → x ≡ y
same_some x y e = ap (λ o. unwrap_or o x) e

pub link_step : (places : List ℕ) (n p : ℕ) (old new : Links) → slice_get places n ≡ Some p → IsLinkedFrom places (suc n) old
    → ((q : ℕ) → get nat_eq new.first q ≡ cond (nat_eq p q) (Some n) (get nat_eq old.first q))
    → ((i : ℕ) → get nat_eq new.next i ≡ cond (nat_eq n i) (Some (get nat_eq old.first p)) (get nat_eq old.next i))
    → IsLinkedFrom places n new
link_step places n p old new at is first next = record {
  first = λ q. first q ∙ ap (λ o. cond (nat_eq p q) (Some n) o) (is.first q) ∙ ap (first_at n q) (sym (drop_at places n p at));
  next = λ i r le there. elim (cases_eq n i) [
    | inl same ↦ let whose : p ≡ r = same_some p r (sym at ∙ ap (slice_get places) same ∙ there) in
        next i ∙ ap (λ b. cond b (Some (get nat_eq old.first p)) (get nat_eq old.next i)) (eq-eqb n i same) ∙ ap Some (is.first p) ∙ (λ j. Some (first_at (suc (same j)) (whose j) (drop (suc (same j)) places)))
    | inr apart ↦ next i ∙ ap (λ b. cond b (Some (get nat_eq old.first p)) (get nat_eq old.next i)) (ne_eqb n i apart) ∙ is.next i r (omega (arith, le, apart)) there
  ];
}

pub none_linked : (places : List ℕ) (n : ℕ) (x : Links) → length places ≤ n → ((q : ℕ) → get nat_eq x.first q ≡ None) → IsLinkedFrom places n x
none_linked places n x past none = record {
  first = λ q. none q ∙ ap (first_at n q) (sym (drop_past places n past));
  next = λ i r le there. absurd (omega (arith, past, le, within places i r there));
}
  where
    drop_past : (xs : List ℕ) (k : ℕ) → length xs ≤ k → drop k xs ≡ []
    drop_past [] zero le = refl
    drop_past [] (suc k) le = refl
    drop_past (x ∷ xs) zero le = absurd (omega (arith, le))
    drop_past (x ∷ xs) (suc k) le = drop_past xs k (omega (arith, le))

    within : (xs : List ℕ) (k y : ℕ) → slice_get xs k ≡ Some y → k < length xs
    within [] k y at = absurd (true≢false (sym (ap is_some at)))
    within (x ∷ xs) zero y at = omega arith
    within (x ∷ xs) (suc k) y at = omega (arith, within xs k y at)

pub get_there : (xs : List ℕ) (k d : ℕ) → k < length xs → slice_get xs k ≡ Some (get_or xs k d)
get_there [] k d less = absurd (omega (arith, less))
get_there (x ∷ xs) zero d less = refl
get_there (x ∷ xs) (suc k) d less = get_there xs k d (omega (arith, less))

pub one_more : (places : List ℕ) (number : ℕ) (old new : Links) → 0 < number → number ≤ length places → IsLinkedFrom places number old
    → ((ps : List ℕ) → slice_get ps (number - 1) ≡ Some (get_or places (number - 1) 0) → IsLinkedFrom ps (suc (number - 1)) old → IsLinkedFrom ps (number - 1) new)
    → IsLinkedFrom places (number - 1) new
one_more places number old new some within is step =
    let again : number ≡ suc (number - 1) = omega (arith, some) in
    step places (get_there places (number - 1) 0 (omega (arith, some, within))) (subst (λ k. IsLinkedFrom places k old) again is)
