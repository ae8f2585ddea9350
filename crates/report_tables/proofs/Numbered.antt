-- Keys and labels by their numbers.
use Rattle.std.proofs.Common.{◌≡◌, ℕ, Bool, true, false, cond, List, [], ◌∷◌, ◌++◌, length, Option, Some, None, is_some, refl, sym, ap, ◌∙◌, true≢false}
use Rattle.std.specs.Prelude.{position, slice_get}
use Rattle.std.specs.Map.{keys_of, values_of, lookup}
use Rattle.std.proofs.lemmas.List.Quantifiers.{position-Some}
use Rattle.std.proofs.lemmas.Option.{slice_get-get_or}
use Rattle.std.proofs.lemmas.Map.Entries.{length-keys_of}
use Rattle.txn_names.specs.Path.{label_eq}
use Rattle.txn_names.proofs.Exports.{same_label}
use Rattle.txn_tree.proofs.Exports.{get_last}
use Rattle.report_tables.specs.Valued.{Values, joined, value_at}

-- who is found at a place stands there
pub at_position : (ks : List (List ℕ)) (k : List ℕ) (i : ℕ) → position (label_eq k) ks ≡ Some i → slice_get ks i ≡ Some k
at_position ks k i e =
    let p = position-Some (label_eq k) ks i k e in
    slice_get-get_or ks i k p.0 ∙ ap Some (sym (same_label k _ p.1))

pub nothing : {X : Type 0} (o : Option X) → is_some o ≡ false → o ≡ None
nothing None e = refl
nothing (Some x) e = absurd (true≢false e)

pub keys_pushed : {X : Type 0} (es : List (List ℕ × X)) (k : List ℕ) (v : X) → keys_of (es ++ (k, v) ∷ []) ≡ keys_of es ++ k ∷ []
keys_pushed [] k v = refl
keys_pushed (e ∷ es) k v = ap (λ ks. e.0 ∷ ks) (keys_pushed es k v)

pub values_pushed : {X : Type 0} (es : List (List ℕ × X)) (k : List ℕ) (v : X) → values_of (es ++ (k, v) ∷ []) ≡ values_of es ++ v ∷ []
values_pushed [] k v = refl
values_pushed (e ∷ es) k v = ap (λ vs. e.1 ∷ vs) (values_pushed es k v)

pub last_key : {X : Type 0} (es : List (List ℕ × X)) (k : List ℕ) (v : X) (n : ℕ) → n ≡ length es → slice_get (keys_of (es ++ (k, v) ∷ [])) n ≡ Some k
last_key es k v n at =
    ap (λ ks. slice_get ks n) (keys_pushed es k v) ∙ ap (slice_get (keys_of es ++ k ∷ [])) (at ∙ sym (length-keys_of es)) ∙ get_last (keys_of es) k

-- a key without a value changes no value
pub valueless : (es : Values) (q k : List ℕ) → value_at (es ++ (q, None) ∷ []) k ≡ value_at es k
valueless [] q k = by (label_eq k q)
  where
    by : (b : Bool) → joined (cond b (Some None) None) ≡ None
    by true = refl
    by false = refl
valueless (e ∷ es) q k = by (label_eq k e.0) (valueless es q k)
  where
    by : (b : Bool) → joined (lookup (label_eq k) (es ++ (q, None) ∷ [])) ≡ joined (lookup (label_eq k) es)
        → joined (cond b (Some e.1) (lookup (label_eq k) (es ++ (q, None) ∷ []))) ≡ joined (cond b (Some e.1) (lookup (label_eq k) es))
    by true same = refl
    by false same = same
