-- A state that is written at a number.
use Rattle.std.proofs.Common.{◌≡◌, ◌≢◌, ℕ, zero, suc, ◌<◌, Bool, true, false, cond, [], ◌∷◌, get_or, Option, Some, None, is_some, unwrap_or, refl, sym, ap, subst, ◌∙◌, true≢false, arith}
use Rattle.std.specs.Cmp.{both_ways}
use Rattle.std.specs.Prelude.{slice_get}
use Rattle.std.specs.Map.{lookup, set_value}
use Rattle.std.proofs.lemmas.Bool.{false≢true}
use Rattle.indexmap.specs.IndexMap.{set_value_at}
use Rattle.txn_names.specs.Path.{Path, path_eq}
use Rattle.txn_names.proofs.Exports.{same_path, path_eq-from}
use Rattle.txn_tree.specs.declared.status.Status.{Status}
use Rattle.txn_tree.specs.declared.status.Status.TheVariants.{Absent, Live}
use Rattle.txn_tree.specs.States.{States, IsTree, names, status_in}
use Rattle.txn_tree.proofs.Changes.{tree_set}
use Rattle.txn_tree.proofs.Links.{some_label}
use Rattle.txn_tree.proofs.Places.{not_before}

-- the names stay
pub names_kept : (tree : States) (n : ℕ) (s : Status) → names (set_value_at tree n s) ≡ names tree
names_kept [] n s = refl
names_kept (r ∷ rs) zero s = refl
names_kept (r ∷ rs) (suc n) s = ap (λ ns. r.0 ∷ ns) (names_kept rs n s)

-- nothing is written where nobody stands
pub nothing_written : (tree : States) (n : ℕ) (s : Status) → slice_get (names tree) n ≡ None → set_value_at tree n s ≡ tree
nothing_written [] n s e = refl
nothing_written (r ∷ rs) zero s e = absurd (true≢false (ap is_some e))
nothing_written (r ∷ rs) (suc n) s e = ap (λ ts. r ∷ ts) (nothing_written rs n s e)

turned : (a b : Path) → path_eq a b ≡ path_eq b a
turned a b = both_ways (path_eq a b) (path_eq b a) (λ e. path_eq-from b a (sym (same_path a b e))) (λ e. path_eq-from a b (sym (same_path b a e)))

-- the first with the name is the one at the number
by_name : (tree : States) (n : ℕ) (t : Path) (s : Status) → ((k : ℕ) → k < n → path_eq t (get_or (names tree) k t) ≡ false)
    → slice_get (names tree) n ≡ Some t → set_value_at tree n s ≡ set_value (path_eq t) tree s
by_name [] n t s first at = refl
by_name (r ∷ rs) zero t s first at =
    sym (ap (λ b. cond b ((r.0, s) ∷ rs) (r ∷ set_value (path_eq t) rs s)) (path_eq-from t r.0 (sym (ap (λ o. unwrap_or o t) at))))
by_name (r ∷ rs) (suc n) t s first at =
    ap (λ ts. r ∷ ts) (by_name rs n t s (λ k less. first (suc k) (omega (arith, less))) at)
    ∙ sym (ap (λ b. cond b ((r.0, s) ∷ rs) (r ∷ set_value (path_eq t) rs s)) (first 0 (omega arith)))

looked_up : (tree : States) (n : ℕ) (t : Path) (s : Status) → ((k : ℕ) → k < n → path_eq t (get_or (names tree) k t) ≡ false)
    → slice_get (names tree) n ≡ Some t → (u : Path) → lookup (path_eq u) (set_value_at tree n s) ≡ cond (path_eq t u) (Some s) (lookup (path_eq u) tree)
looked_up [] n t s first at u = absurd (false≢true (ap is_some at))
looked_up (r ∷ rs) zero t s first at u = by (path_eq u r.0) (path_eq t u) (turned u r.0 ∙ ap (λ p. path_eq p u) (ap (λ o. unwrap_or o t) at))
  where
    by : (a b : Bool) → a ≡ b → cond a (Some s) (lookup (path_eq u) rs) ≡ cond b (Some s) (cond a (Some r.1) (lookup (path_eq u) rs))
    by true true e = refl
    by true false e = absurd (true≢false e)
    by false true e = absurd (false≢true e)
    by false false e = refl
looked_up (r ∷ rs) (suc n) t s first at u =
    ap (λ o. cond (path_eq u r.0) (Some r.1) o) (looked_up rs n t s (λ k less. first (suc k) (omega (arith, less))) at u)
    ∙ by (path_eq u r.0) (path_eq t u) refl refl
  where
    by : (a b : Bool) → path_eq u r.0 ≡ a → path_eq t u ≡ b
        → cond a (Some r.1) (cond b (Some s) (lookup (path_eq u) rs)) ≡ cond b (Some s) (cond a (Some r.1) (lookup (path_eq u) rs))
    by true true e f = absurd (true≢false (sym (ap (λ p. path_eq p r.0) (same_path t u f) ∙ e) ∙ first 0 (omega arith)))
    by true false e f = refl
    by false b e f = refl

module _ (tree : States) (is : IsTree tree) (n : ℕ) (s : Status) where
  pub tree_written : s ≢ Absent → IsTree (set_value_at tree n s)
  tree_written other = by (slice_get (names tree) n) refl
    where
      by : (o : Option Path) → slice_get (names tree) n ≡ o → IsTree (set_value_at tree n s)
      by None e = subst IsTree (sym (nothing_written tree n s e)) is
      by (Some t) e = subst IsTree (sym (by_name tree n t s (not_before (names tree) is.distinct t n e) e)) (tree_set (path_eq t) tree s is other)

  pub status_written : (t : Path) → slice_get (names tree) n ≡ Some t → (u : Path) → status_in (set_value_at tree n s) u ≡ cond (path_eq t u) s (status_in tree u)
  status_written t at [] = sym (ap (λ b. cond b s Live) (turned t [] ∙ some_label (names tree) n t is.named at))
  status_written t at (l ∷ ls) =
      ap (λ o. unwrap_or o Absent) (looked_up tree n t s (not_before (names tree) is.distinct t n at) at (l ∷ ls))
      ∙ by (path_eq t (l ∷ ls)) (lookup (path_eq (l ∷ ls)) tree)
    where
      by : (b : Bool) (o : Option Status) → unwrap_or (cond b (Some s) o) Absent ≡ cond b s (unwrap_or o Absent)
      by true o = refl
      by false o = refl
