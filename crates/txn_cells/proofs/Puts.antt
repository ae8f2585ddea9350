-- What stands at each key after what stands at one has changed.
use Rattle.std.proofs.Common.{◌≡◌, ℕ, Bool, true, false, cond, nat_eq, ◌&&◌, List, [], Option, Some, None, unwrap_or, is_some, refl, sym, ap, subst, ◌∙◌, true≢false, rules}
use Rattle.std.specs.Prelude.{IsSome, Result, Ok, Err, OnErr, OnOk, is_err}
use Rattle.std.specs.Map.{lookup}
use Rattle.std.proofs.lemmas.Bool.{eqb-true, false≢true}
use Rattle.txn_names.specs.Path.{label_eq}
use Rattle.txn_names.proofs.Exports.{on_test, on_label}
use Rattle.txn_cells.specs.Kept.{AtKeys, Held, content_kept, content_of, place_kept, held_at, holds}

pub on_number : (a b : ℕ) (P : Bool → Type 0) → (a ≡ b → P true) → (nat_eq a b ≡ false → P false) → P (nat_eq a b)
on_number a b P f g = on_test (nat_eq a b) P (λ e. f (eqb-true a b e)) g

pub none_from : {X : Type 0} (o : Option X) → is_some o ≡ false → o ≡ None
none_from None e = refl
none_from (Some x) e = absurd (true≢false e)

pub some_from : {X : Type 0} (o : Option X) → is_some o ≡ true → IsSome o
some_from None e = absurd (false≢true e)
some_from (Some x) e = search rules

module _ {V : Type 0} (table : AtKeys V) (k : List ℕ) where
  pub held_found : (held : Held V) → lookup (label_eq k) table ≡ Some held → held_at table k ≡ held
  held_found held e = ap (λ o. unwrap_or o []) e

  -- where somebody has a place something is kept
  pub is_kept : (t : ℕ) → holds (held_at table k) t ≡ true → is_some (lookup (label_eq k) table) ≡ true
  is_kept t = by (lookup (label_eq k) table)
    where
      by : (o : Option (Held V)) → holds (unwrap_or o []) t ≡ true → is_some o ≡ true
      by None e = absurd (false≢true e)
      by (Some held) e = refl

  module _ (held : Held V) (changed : AtKeys V) (at : (q : List ℕ) → lookup (label_eq q) changed ≡ cond (label_eq k q) (Some held) (lookup (label_eq q) table)) where
    pub held-put : (q : List ℕ) → held_at changed q ≡ cond (label_eq k q) held (held_at table q)
    held-put q = ap (λ o. unwrap_or o []) (at q) ∙ by (label_eq k q)
      where
        by : (b : Bool) → unwrap_or (cond b (Some held) (lookup (label_eq q) table)) [] ≡ cond b held (held_at table q)
        by true = refl
        by false = refl

    -- of what is asked of each key, the one key has its own
    pub each-put : {X : Type 0} (asked : Held V → X) (now : List ℕ → X) → asked held ≡ now k → (q : List ℕ) → asked (held_at changed q) ≡ cond (label_eq k q) (now q) (asked (held_at table q))
    each-put asked now is q =
        ap asked (held-put q)
        ∙ on_label k q (λ b. asked (cond b held (held_at table q)) ≡ cond b (now q) (asked (held_at table q)))
        (λ e. subst (λ (p : List ℕ). asked held ≡ now p) e is)
        (λ _. refl)

-- where a key's own is what it was, none is changed
pub cond_same : {X : Type 0} (b : Bool) (x : X) → cond b x x ≡ x
cond_same true x = refl
cond_same false x = refl

pub cond-both : {X : Type 0} (a b : Bool) (x y : X) → cond a (cond b x y) y ≡ cond (b && a) x y
cond-both true true x y = refl
cond-both true false x y = refl
cond-both false true x y = refl
cond-both false false x y = refl

-- at the exit of a `?`
pub at_err : {A E : Type 0} (r : Result A E) {Q : Type 0} → Q → OnErr r Q
at_err (Ok x) q = tt
at_err (Err e) q = q

-- where nothing is kept nobody has a place
module _ {V : Type 0} (table : AtKeys V) (k : List ℕ) (none : lookup (label_eq k) table ≡ None) where
  pub bare : held_at table k ≡ []
  bare = ap (λ o. unwrap_or o []) none

  pub none_placed : (u : ℕ) → place_kept table u k ≡ false
  none_placed u = ap (λ (h : Held V). holds h u) bare

  pub none_had : (u : ℕ) → content_kept table u k ≡ None
  none_had u = ap (λ (h : Held V). content_of h u) bare

pub at_ok : {A E : Type 0} {Q : Type 0} (r : Result A E) → OnOk r Q → is_err r ≡ false → Q
at_ok (Ok x) q e = q
at_ok (Err x) q e = absurd (true≢false e)

pub in_err : {A E : Type 0} {Q : Type 0} (r : Result A E) → OnErr r Q → is_err r ≡ true → Q
in_err (Ok x) q e = absurd (false≢true e)
in_err (Err x) q e = q

-- where nothing is kept at a key an empty list there is as none
pub held_empty : {V : Type 0} (kept : AtKeys V) (k : List ℕ) → is_some (lookup (label_eq k) kept) ≡ false
    → (q : List ℕ) → unwrap_or (cond (label_eq k q) (Some []) (lookup (label_eq q) kept)) [] ≡ held_at kept q
held_empty kept k none q =
    on_label k q (λ b. unwrap_or (cond b (Some []) (lookup (label_eq q) kept)) [] ≡ held_at kept q)
    (λ e. subst (λ (p : List ℕ). [] ≡ held_at kept p) e (sym (ap (λ o. unwrap_or o []) (none_from (lookup (label_eq k) kept) none))))
    (λ _. refl)
