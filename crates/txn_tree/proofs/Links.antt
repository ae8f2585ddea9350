-- What is kept beside the states: parents, and who is live below a parent when a child begins or ends.
use Rattle.std.proofs.Common.{◌≡◌, ℕ, ◌+◌, ◌<◌, ◌≤◌, nat_eq, Bool, true, false, not, ◌&&◌, cond, count_by, List, [], ◌∷◌, ◌++◌, length, get_or, Option, Some, None, unwrap_or, ◌⊎◌, inl, inr, refl, sym, ap, subst, ◌∙◌, true≢false, All, arith}
use Rattle.std.specs.Cmp.{both_ways}
use Rattle.std.specs.Prelude.{slice_get, Result, Ok, Err, OnOk, OnErr}
use Rattle.std.specs.Result.{is_err}
use Rattle.std.specs.List.{IsDistinct}
use Rattle.std.proofs.lemmas.Bool.{false≢true, eqb-true, eq-eqb}
use Rattle.std.proofs.lemmas.Option.{slice_get_within, slice_get_cases, get_or_from_slice_get}
use Rattle.std.proofs.lemmas.List.Elements.{All-get_or}
use Rattle.std.proofs.lemmas.Map.Entries.{length-keys_of}
use Rattle.txn_names.specs.Path.{Path, path_eq, parent}
use Rattle.txn_names.specs.Text.{IsName}
use Rattle.txn_names.proofs.Exports.{same_path, path_eq-from, path_eq_self}
use Rattle.txn_tree.specs.declared.node.Children.{Children}
use Rattle.txn_tree.specs.declared.node.Node.{Node}
use Rattle.txn_tree.specs.declared.status.Status.{Status}
use Rattle.txn_tree.specs.declared.status.Status.TheVariants.{Live}
use Rattle.txn_tree.specs.States.{States, names, status_in, is_live}
use Rattle.txn_tree.specs.Asked.{live_children_of}
use Rattle.txn_tree.specs.Numbered.{is_parent_of}
use Rattle.txn_tree.specs.Linked.{IsLinked, IsParentAt, is_at, is_child_in}
use Rattle.txn_tree.proofs.Places.{get_front, one_place}
use Rattle.txn_tree.proofs.Counts.{count_push, count_same, count_none, count_split, count_one}

-- a name at a place has a label
pub some_label : (ns : List Path) (n : ℕ) (u : Path) → All IsName ns → slice_get ns n ≡ Some u → path_eq [] u ≡ false
some_label ns n u named at =
    by u (subst IsName (get_or_from_slice_get ns n u u at) (All-get_or IsName ns n u (slice_get_within ns n u at) named))
  where
    by : (v : Path) → IsName v → path_eq [] v ≡ false
    by [] name = absurd (omega (arith, name.some))
    by (l ∷ ls) name = refl

-- the parent's number is that of the parent's name, and of no other
pub place_is : (ns : List Path) (n : ℕ) (t : Path) (o : Option ℕ) → All IsName ns → IsDistinct path_eq ns → IsParentAt ns n t o
    → (m : ℕ) (u : Path) → slice_get ns m ≡ Some u → is_at o m ≡ path_eq (parent t) u
place_is ns n t None named distinct is m u at = sym (ap (λ (p : Path). path_eq p u) is ∙ some_label ns m u named at)
place_is ns n t (Some p) named distinct is m u at =
    both_ways (nat_eq p m) (path_eq (parent t) u)
    (λ e. path_eq-from (parent t) u (ap (λ o. unwrap_or o u) (sym is.1 ∙ ap (λ k. slice_get ns k) (eqb-true p m e) ∙ at)))
    (λ e. eq-eqb p m (one_place ns distinct u p m (is.1 ∙ ap Some (same_path (parent t) u e)) at))

pub parent_front : (ns ys : List Path) (n : ℕ) (t : Path) (o : Option ℕ) → IsParentAt ns n t o → IsParentAt (ns ++ ys) n t o
parent_front ns ys n t None is = is
parent_front ns ys n t (Some p) is = (is.0, get_front ns ys p (parent t) is.1)

module _ (ns : List Path) (s next : Path → Status) (t : Path) (to : Status) (changes : (u : Path) → next u ≡ cond (path_eq t u) to (s u)) where
  abbrev lives : (Path → Status) → Path → Path → Bool
  lives f p u = path_eq (parent u) p && is_live (f u)

  same_status : (u : Path) → path_eq t u ≡ false → next u ≡ s u
  same_status u e = changes u ∙ ap (λ b. cond b to (s u)) e

  own_status : next t ≡ to
  own_status = changes t ∙ ap (λ b. cond b to (s t)) (path_eq_self t)

  -- how many live children there are once a child has begun
  pub live_begun : ((m : ℕ) → slice_get ns m ≡ Some t → ⊥) → to ≡ Live → (p : Path)
      → count_by (λ u. path_eq (parent u) p && is_live (next u)) (ns ++ t ∷ []) ≡ count_by (λ u. path_eq (parent u) p && is_live (s u)) ns + cond (path_eq (parent t) p) 1 0
  live_begun fresh is p =
      count_push (lives next p) ns t
      ∙ ap (λ k. k + cond (lives next p t) 1 0) (count_same (lives next p) (lives s p) ns (λ m u at. ap (λ f. path_eq (parent u) p && is_live f) (same_status u (apart m u at))))
      ∙ ap (λ f. count_by (lives s p) ns + cond (path_eq (parent t) p && is_live f) 1 0) (own_status ∙ is)
      ∙ ap (λ b. count_by (lives s p) ns + cond b 1 0) (by (path_eq (parent t) p))
    where
      by : (b : Bool) → (b && true) ≡ b
      by true = refl
      by false = refl

      none : (b : Bool) → (b ≡ true → ⊥) → b ≡ false
      none true f = absurd (f refl)
      none false f = refl

      apart : (m : ℕ) (u : Path) → slice_get ns m ≡ Some u → path_eq t u ≡ false
      apart m u at = none (path_eq t u) (λ e. fresh m (at ∙ ap Some (sym (same_path t u e))))

  -- and once one has ended
  pub live_ended : (n : ℕ) → slice_get ns n ≡ Some t → IsDistinct path_eq ns → s t ≡ Live → is_live to ≡ false → (p : Path)
      → count_by (λ u. path_eq (parent u) p && is_live (s u)) ns ≡ count_by (λ u. path_eq (parent u) p && is_live (next u)) ns + cond (path_eq (parent t) p) 1 0
  live_ended n at distinct lived ended p =
      count_split (lives s p) (path_eq t) ns
      ∙ ap (λ k. k + count_by (λ u. lives s p u && path_eq t u) ns) (count_same (λ u. lives s p u && not (path_eq t u)) (lives next p) ns (λ m u found. less u (path_eq t u) refl))
      ∙ ap (λ k. count_by (lives next p) ns + k) (count_one (lives s p) ns t n at (λ m found. one_place ns distinct t m n found at)
      ∙ ap (λ f. cond (path_eq (parent t) p && is_live f) 1 0) lived ∙ ap (λ b. cond b 1 0) (by (path_eq (parent t) p)))
    where
      by : (b : Bool) → (b && true) ≡ b
      by true = refl
      by false = refl

      off : (a : Bool) → (a && false) ≡ false
      off true = refl
      off false = refl

      less : (u : Path) (b : Bool) → path_eq t u ≡ b → (lives s p u && not b) ≡ lives next p u
      less u true e = off (lives s p u) ∙ sym (ap (λ f. path_eq (parent u) p && f) (ap is_live (changes u ∙ ap (λ b. cond b to (s u)) e) ∙ ended) ∙ off (path_eq (parent u) p))
      less u false e = by (lives s p u) ∙ ap (λ f. path_eq (parent u) p && is_live f) (sym (same_status u e))

-- each that has begun has a node
pub node_at : (tree : States) (nodes : List Node) (tops : Children) → IsLinked tree nodes tops → (n : ℕ) (u : Path) → slice_get (names tree) n ≡ Some u → (x : Node) × (slice_get nodes n ≡ Some x)
node_at tree nodes tops is n u at =
    let within = slice_get_within (names tree) n u at in
    by (slice_get_cases nodes n).1 (omega (arith, within, is.level, length-keys_of tree))
  where
    by : ((x : Node) × (n < length nodes) × (slice_get nodes n ≡ Some x) × (get_or nodes n x ≡ x)) ⊎ ((length nodes ≤ n) × (slice_get nodes n ≡ None)) → n < length nodes → (x : Node) × (slice_get nodes n ≡ Some x)
    by (inl w) within = (w.0, w.2)
    by (inr past) within = absurd (omega (arith, past.0, within))

-- whose parent began began too, so a name that has not begun has no children
module _ (tree : States) (nodes : List Node) (tops : Children) (is : IsLinked tree nodes tops) (t : Path) (fresh : (m : ℕ) → slice_get (names tree) m ≡ Some t → ⊥) (some : path_eq [] t ≡ false) where
  no_child_at : (n : ℕ) (u : Path) → slice_get (names tree) n ≡ Some u → path_eq (parent u) t ≡ true → ⊥
  no_child_at n u at = let x = node_at tree nodes tops is n u at in by x.0.parent (is.parents n u x.0 at x.1)
    where
      by : (o : Option ℕ) → IsParentAt (names tree) n u o → path_eq (parent u) t ≡ true → ⊥
      by None root e = true≢false (sym (path_eq-from [] t (sym root ∙ same_path (parent u) t e)) ∙ some)
      by (Some p) found e = fresh p (found.1 ∙ ap Some (same_path (parent u) t e))

  pub no_child : (m : ℕ) → is_child_in (names tree) t m ≡ false
  no_child m = by (slice_get (names tree) m) refl
    where
      off : (u : Path) (a : Bool) → slice_get (names tree) m ≡ Some u → path_eq (parent u) t ≡ a → a ≡ false
      off u true at e = absurd (no_child_at m u at e)
      off u false at e = refl

      by : (o : Option Path) → slice_get (names tree) m ≡ o → is_parent_of (Some t) o ≡ false
      by None at = refl
      by (Some u) at = off u (path_eq (parent u) t) at refl

  pub no_live_child : live_children_of tree t ≡ 0
  no_live_child = count_none (λ u. path_eq (parent u) t && is_live (status_in tree u)) (names tree) (λ n u at. off (path_eq (parent u) t) (is_live (status_in tree u)) (no_child_at n u at))
    where
      off : (a b : Bool) → (a ≡ true → ⊥) → (a && b) ≡ false
      off true b f = absurd (f refl)
      off false b f = refl

pub on_ok : {A E : Type 0} (r : Result A E) (P : Type 0) → is_err r ≡ false → OnOk r P → P
on_ok (Ok x) P e h = h
on_ok (Err x) P e h = absurd (true≢false e)

pub on_err : {A E : Type 0} (r : Result A E) (P : Type 0) → is_err r ≡ true → OnErr r P → P
on_err (Ok x) P e h = absurd (false≢true e)
on_err (Err x) P e h = h

-- the number of the parent
pub parent_some : (tree : States) (t q : Path) (p : ℕ) → slice_get (names tree) p ≡ Some q → q ≡ parent t → IsParentAt (names tree) (length tree) t (Some p)
parent_some tree t q p at e = let within = slice_get_within (names tree) p q at in (omega (arith, within, length-keys_of tree), at ∙ ap Some e)
