-- What is told of a transaction by its number.
use Rattle.std.proofs.Common.{◌≡◌, ℕ, suc, ◌<◌, nat_lt, Bool, true, false, not, List, [], ◌∷◌, length, Option, Some, None, is_some, unwrap_or, inl, inr, refl, sym, ap, subst, ◌∙◌, true≢false, arith}
use Rattle.std.specs.Prelude.{slice_get, IfSome}
use Rattle.std.specs.Map.{lookup}
use Rattle.std.proofs.lemmas.Bool.{false≢true, eq-eqb, lt-ltb, le-ltb, not-true, not-false}
use Rattle.std.proofs.lemmas.Option.{slice_get_within, slice_get_cases, slice_get_past, get_or_from_slice_get}
use Rattle.std.proofs.lemmas.List.Elements.{All-get_or}
use Rattle.std.proofs.lemmas.Map.Entries.{length-keys_of, lookup_tail}
use Rattle.txn_names.specs.Path.{Path, path_eq, parent}
use Rattle.txn_names.specs.Text.{IsName}
use Rattle.txn_names.proofs.Exports.{same_path, path_eq-from, length-parent}
use Rattle.txn_tree.specs.declared.node.Children.{Children}
use Rattle.txn_tree.specs.declared.node.Node.{Node}
use Rattle.txn_tree.specs.declared.status.Status.{Status}
use Rattle.txn_tree.specs.declared.status.Status.TheVariants.{Absent}
use Rattle.txn_tree.specs.States.{States, IsTree, names, is_absent}
use Rattle.txn_tree.specs.Asked.{IsNumberOf, is_name, is_absent_in, live_children_of}
use Rattle.txn_tree.specs.Numbered.{IsClosed, has_parent, is_parent_of}
use Rattle.txn_tree.specs.Linked.{IsLinked, IsParentAt, kept_parent}
use Rattle.txn_tree.proofs.Numbers.{is_begun}
use Rattle.txn_tree.proofs.Links.{node_at, no_live_child}
use Rattle.txn_tree.proofs.Under.{nowhere, absent_nowhere}

-- the name at a number that is its own
pub named_at : (tree : States) (t : Path) (n : ℕ) → IsNumberOf tree t n → slice_get (names tree) n ≡ Some t
named_at tree t n is = by (slice_get (names tree) n) (sym (is n) ∙ eq-eqb n n refl)
  where
    by : (o : Option Path) → is_name o t ≡ true → o ≡ Some t
    by None e = absurd (false≢true e)
    by (Some u) e = ap Some (sym (same_path t u e))

-- a name with a row stands at a number
pub row_place : (tree : States) (t : Path) → is_some (lookup (path_eq t) tree) ≡ true → (n : ℕ) × (slice_get (names tree) n ≡ Some t)
row_place [] t e = absurd (false≢true e)
row_place (r ∷ rs) t e = by (row_place rs t) (path_eq t r.0) refl
  where
    by : (is_some (lookup (path_eq t) rs) ≡ true → (n : ℕ) × (slice_get (names rs) n ≡ Some t)) → (b : Bool) → path_eq t r.0 ≡ b → (n : ℕ) × (slice_get (names (r ∷ rs)) n ≡ Some t)
    by later true f = (0, ap Some (sym (same_path t r.0 f)))
    by later false f = let w = later (ap is_some (sym (lookup_tail (path_eq t) r rs f)) ∙ e) in (suc w.0, w.1)

module _ (tree : States) (nodes : List Node) (tops : Children) (is : IsTree tree) (linked : IsLinked tree nodes tops) where
  pub name_at : (n : ℕ) (u : Path) → slice_get (names tree) n ≡ Some u → IsName u
  name_at n u at = subst IsName (get_or_from_slice_get (names tree) n u u at) (All-get_or IsName (names tree) n u (slice_get_within (names tree) n u at) is.named)

  begun_at : (n : ℕ) (u : Path) → slice_get (names tree) n ≡ Some u → is_absent_in tree u ≡ false
  begun_at n u at = by (lookup (path_eq u) tree) refl (is_begun tree is u (name_at n u at))
    where
      by : (o : Option Status) → lookup (path_eq u) tree ≡ o → is_some (lookup (path_eq u) tree) ≡ not (is_absent_in tree u) → is_absent_in tree u ≡ false
      by None e f = absurd (nowhere tree u e n at)
      by (Some s) e f = not-true (is_absent_in tree u) (sym (ap is_some (sym e) ∙ f))

  -- each parent has begun
  pub closed : IsClosed tree
  closed [] e = e
  closed (l ∷ ls) e =
      let w = place (lookup (path_eq (l ∷ ls)) tree) refl in
      let x = node_at tree nodes tops linked w.0 (l ∷ ls) w.1 in
      by w.0 x.0.parent (linked.parents w.0 (l ∷ ls) x.0 w.1 x.1)
    where
      place : (o : Option Status) → lookup (path_eq (l ∷ ls)) tree ≡ o → (n : ℕ) × (slice_get (names tree) n ≡ Some (l ∷ ls))
      place None q = absurd (true≢false (sym (ap (λ p. is_absent (unwrap_or p Absent)) q) ∙ e))
      place (Some s) q = row_place tree (l ∷ ls) (ap is_some q)

      by : (n : ℕ) (o : Option ℕ) → IsParentAt (names tree) n (l ∷ ls) o → is_absent_in tree (parent (l ∷ ls)) ≡ false
      by n None root = ap (is_absent_in tree) root
      by n (Some p) found = begun_at p (parent (l ∷ ls)) found.1

  has_one : (n : ℕ) (t : Path) (o : Option ℕ) → IsName t → IsParentAt (names tree) n t o → is_some o ≡ nat_lt 1 (length t)
  has_one n t None name root = let e = ap length root in sym (le-ltb 1 (length t) (omega (arith, e, length-parent t)))
  has_one n t (Some p) name found = let some = (name_at p (parent t) found.1).some in sym (lt-ltb 1 (length t) (omega (arith, some, length-parent t)))

  pub told : (n : ℕ) → (is_some (kept_parent (slice_get nodes n)) ≡ has_parent (slice_get (names tree) n))
      × IfSome (kept_parent (slice_get nodes n)) (λ p. is_parent_of (slice_get (names tree) p) (slice_get (names tree) n) ≡ true)
      × IfSome (kept_parent (slice_get nodes n)) (λ p. p < n)
  told n =
      elim (slice_get_cases (names tree) n).1 [
        | inl w ↦ let x = node_at tree nodes tops linked n w.0 w.2 in rw (x.1, w.2) (by w.0 (name_at n w.0 w.2) x.0.parent (linked.parents n w.0 x.0 w.2 x.1))
        | inr w ↦ let none = slice_get_past nodes n (omega (arith, w.0, linked.level, length-keys_of tree)) in rw (none, w.1) (refl, tt, tt)
      ]
    where
      by : (t : Path) → IsName t → (o : Option ℕ) → IsParentAt (names tree) n t o
          → (is_some o ≡ has_parent (Some t)) × IfSome o (λ p. is_parent_of (slice_get (names tree) p) (Some t) ≡ true) × IfSome o (λ p. p < n)
      by t name None root = (has_one n t None name root, tt, tt)
      by t name (Some p) found = (has_one n t (Some p) name found, rw found.1 (path_eq-from (parent t) (parent t) refl), found.0)

-- whoever has not begun has no live child
pub nobody_below : (tree : States) (nodes : List Node) (tops : Children) → IsTree tree → IsLinked tree nodes tops → (t : Path) → IsName t → not (is_absent_in tree t) ≡ false → 0 ≡ live_children_of tree t
nobody_below tree nodes tops is linked t name absent =
    sym (no_live_child tree nodes tops linked t (absent_nowhere tree is t name (not-false (is_absent_in tree t) absent)) (labelled t name))
  where
    labelled : (u : Path) → IsName u → path_eq [] u ≡ false
    labelled [] n = absurd (omega (arith, n.some))
    labelled (l ∷ ls) n = refl
