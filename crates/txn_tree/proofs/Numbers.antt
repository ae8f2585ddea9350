-- The number of a name, found among distinct names.
use Rattle.std.proofs.Common.{◌≡◌, ℕ, ◌<◌, Bool, true, false, not, List, [], ◌∷◌, length, get_or, Option, Some, None, is_some, unwrap_or, inl, inr, refl, sym, ap, subst, ◌∙◌, arith}
use Rattle.std.specs.Cmp.{both_ways}
use Rattle.std.specs.Prelude.{◌==◌, ◌≢◌, slice_get, position, IfSome}
use Rattle.std.specs.List.{IsDistinct}
use Rattle.std.specs.Map.{lookup}
use Rattle.std.proofs.lemmas.Bool.{true≢false, eqb-true, eq-eqb, ne_eqb, cases_lt}
use Rattle.std.proofs.lemmas.Option.{slice_get_cases}
use Rattle.std.proofs.lemmas.List.Elements.{All-get_or}
use Rattle.std.proofs.lemmas.List.Quantifiers.{position-Some}
use Rattle.std.proofs.lemmas.Map.Keys.{apart_from_distinct}
use Rattle.std.proofs.lemmas.Map.Views.{IfSome-lookup_from_All}
use Rattle.txn_names.specs.Path.{Path, path_eq}
use Rattle.txn_names.specs.Text.{IsName}
use Rattle.txn_names.proofs.Exports.{same_path, path_eq-from}
use Rattle.txn_tree.specs.declared.status.Status.{Status}
use Rattle.txn_tree.specs.declared.status.Status.TheVariants.{Absent}
use Rattle.txn_tree.specs.States.{States, IsTree, names, is_absent}
use Rattle.txn_tree.specs.Asked.{is_name, is_absent_in, IsRootless}

module _ (xs : List Path) (distinct : IsDistinct path_eq xs) (t : Path) (n : ℕ) (at : position (path_eq t) xs ≡ Some n) where
  here : (x : Path) → t ≡ get_or xs n x
  here x = same_path t (get_or xs n x) (position-Some (path_eq t) xs n x at).1

  -- nobody else has the name
  elsewhere : (m : ℕ) (x : Path) → m < length xs → t ≡ get_or xs m x → (n ≡ m → ⊥) → ⊥
  elsewhere m x within same other =
      let p = position-Some (path_eq t) xs n x at in
      let alike : path_eq (get_or xs n x) (get_or xs m x) ≡ true = path_eq-from _ _ (sym (here x) ∙ same) in
      let alike_too : path_eq (get_or xs m x) (get_or xs n x) ≡ true = path_eq-from _ _ (sym same ∙ here x) in
      elim (cases_lt n m) [
        | inl below ↦ true≢false (sym alike ∙ apart_from_distinct path_eq xs n m x distinct below within)
        | inr past ↦ elim (cases_lt m n) [
          | inl above ↦ true≢false (sym alike_too ∙ apart_from_distinct path_eq xs m n x distinct above p.0)
          | inr level ↦ other (omega (arith, past, level))
        ]
      ]

  pub number_at : (m : ℕ) → (n == m) ≡ is_name (slice_get xs m) t
  number_at m =
      elim (slice_get_cases xs m).1 [
        | inl w ↦
            let x = w.0 in
            ap (λ b. b) (both_ways (n == m) (path_eq t x)
            (λ e. path_eq-from t x (here x ∙ ap (λ i. get_or xs i x) (eqb-true n m e) ∙ w.3))
            (λ e. by_cases m x w.1 (same_path t x e ∙ sym w.3)))
            ∙ ap (λ o. is_name o t) (sym w.2)
        | inr past ↦
            let within : n < length xs = (position-Some (path_eq t) xs n t at).0 in
            ne_eqb n m (λ e. absurd (omega (arith, e, within, past.0))) ∙ ap (λ o. is_name o t) (sym past.1)
      ]
    where
      by_cases : (m : ℕ) (x : Path) → m < length xs → t ≡ get_or xs m x → (n == m) ≡ true
      by_cases m x within same = by (n == m) refl
        where
          by : (b : Bool) → (n == m) ≡ b → b ≡ true
          by true e = refl
          by false e = absurd (elsewhere m x within same (λ q. true≢false (sym (eq-eqb n m q) ∙ e)))

-- a name that is in the tree is not the root's
pub no_root : (tree : States) → IsTree tree → IsRootless tree
no_root tree is m =
    elim (slice_get_cases (names tree) m).1 [
      | inl w ↦ ap (λ o. is_name o []) w.2 ∙ by w.0 (subst IsName w.3 (All-get_or IsName (names tree) m w.0 w.1 is.named))
      | inr past ↦ ap (λ o. is_name o []) past.1
    ]
  where
    by : (u : Path) → IsName u → path_eq [] u ≡ false
    by [] name = absurd (omega (arith, name.some))
    by (l ∷ ls) name = refl

-- whoever has a row has begun
begun_row : (o : Option Status) → IfSome o (λ s. s ≢ Absent) → is_some o ≡ not (is_absent (unwrap_or o Absent))
begun_row None h = refl
begun_row (Some s) h = by s h
  where
    by : (s : Status) → s ≢ Absent → true ≡ not (is_absent s)
    by Absent h = absurd (h refl)
    by s h = refl

pub is_begun : (tree : States) → IsTree tree → (t : Path) → IsName t → is_some (lookup (path_eq t) tree) ≡ not (is_absent_in tree t)
is_begun tree is [] name = absurd (omega (arith, name.some))
is_begun tree is (l ∷ ls) name = begun_row (lookup (path_eq (l ∷ ls)) tree) (IfSome-lookup_from_All (λ s. s ≢ Absent) (path_eq (l ∷ ls)) tree is.begun)
