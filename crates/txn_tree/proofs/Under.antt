-- Who stands below whom, by number: a superior has the smaller number.
use Rattle.std.proofs.Common.{◌≡◌, ℕ, zero, suc, ◌<◌, ◌≤◌, nat_lt, length, Bool, true, false, not, ◌&&◌, List, [], ◌∷◌, Option, Some, None, is_some, unwrap_or, ◌⊎◌, inl, inr, refl, sym, ap, subst, ◌∙◌, true≢false, arith}
use Rattle.std.specs.Prelude.{slice_get}
use Rattle.std.specs.Cmp.{both_ways}
use Rattle.std.specs.Map.{lookup}
use Rattle.std.proofs.lemmas.Bool.{false≢true, and_parts, lt-ltb}
use Rattle.std.proofs.lemmas.Map.Entries.{lookup_head, lookup_tail}
use Rattle.txn_names.specs.Path.{Path, path_eq, label_eq, is_front, parent}
use Rattle.txn_names.specs.Text.{IsName}
use Rattle.txn_names.proofs.Exports.{same_label, same_path, label_eq_self, path_eq-from, is_front_self, is_front-parent, is_front-trans, front_cases}
use Rattle.txn_tree.specs.declared.node.Children.{Children}
use Rattle.txn_tree.specs.declared.node.Node.{Node}
use Rattle.txn_tree.specs.States.{States, IsTree, names}
use Rattle.txn_tree.specs.Asked.{is_absent_in}
use Rattle.txn_tree.specs.Numbered.{has_parent, is_front_of, is_parent_of, is_under}
use Rattle.txn_tree.specs.Linked.{IsLinked, IsParentAt}
use Rattle.txn_tree.proofs.Numbers.{is_begun}
use Rattle.txn_tree.proofs.Places.{one_place}
use Rattle.txn_tree.proofs.Links.{node_at, some_label}

-- a name without a row stands nowhere
pub nowhere : (tree : States) (t : Path) → lookup (path_eq t) tree ≡ None → (m : ℕ) → slice_get (names tree) m ≡ Some t → ⊥
nowhere [] t none m at = false≢true (ap is_some at)
nowhere (r ∷ rs) t none m at = by (nowhere rs t) (path_eq t r.0) refl m at
  where
    by : (lookup (path_eq t) rs ≡ None → (m : ℕ) → slice_get (names rs) m ≡ Some t → ⊥) → (b : Bool) → path_eq t r.0 ≡ b → (m : ℕ) → slice_get (names (r ∷ rs)) m ≡ Some t → ⊥
    by later true e m at = false≢true (ap is_some (sym none ∙ lookup_head (path_eq t) r rs e))
    by later false e zero at = true≢false (sym (path_eq-from t r.0 (sym (ap (λ o. unwrap_or o t) at))) ∙ e)
    by later false e (suc m) at = later (sym (lookup_tail (path_eq t) r rs e) ∙ none) m at

pub absent_nowhere : (tree : States) → IsTree tree → (t : Path) → IsName t → is_absent_in tree t ≡ true → (m : ℕ) → slice_get (names tree) m ≡ Some t → ⊥
absent_nowhere tree is t name absent = nowhere tree t (by (lookup (path_eq t) tree) (is_begun tree is t name ∙ ap (λ b. not b) absent))
  where
    by : {X : Type 0} (o : Option X) → is_some o ≡ false → o ≡ None
    by None e = refl
    by (Some x) e = absurd (true≢false e)

-- two that are above one are one above the other
comparable : (a b c : Path) → is_front a c ≡ true → is_front b c ≡ true → (is_front a b ≡ true) ⊎ (is_front b a ≡ true)
comparable [] b c f g = inl refl
comparable (x ∷ xs) [] c f g = inr refl
comparable (x ∷ xs) (y ∷ ys) [] f g = absurd (false≢true f)
comparable (x ∷ xs) (y ∷ ys) (z ∷ zs) f g =
    let fs = and_parts (label_eq x z) (is_front xs zs) f in
    let gs = and_parts (label_eq y z) (is_front ys zs) g in
    let same : x ≡ y = same_label x z fs.0 ∙ sym (same_label y z gs.0) in
    elim (comparable xs ys zs fs.1 gs.1) [
      | inl h ↦ inl (both (label_eq x y) (is_front xs ys) (subst (λ (w : List ℕ). label_eq x w ≡ true) same (label_eq_self x)) h)
      | inr h ↦ inr (both (label_eq y x) (is_front ys xs) (subst (λ (w : List ℕ). label_eq w x ≡ true) same (label_eq_self x)) h)
    ]
  where
    both : (a b : Bool) → a ≡ true → b ≡ true → (a && b) ≡ true
    both a b e f = ap (λ c. c && b) e ∙ f

-- a child and its parent
child_is : (o q : Option Path) → is_parent_of o q ≡ true → (v : Path) × (q ≡ Some v) × (o ≡ Some (parent v))
child_is None None e = absurd (false≢true e)
child_is None (Some v) e = absurd (false≢true e)
child_is (Some w) None e = absurd (false≢true e)
child_is (Some w) (Some v) e = (v, refl, ap Some (sym (same_path (parent v) w e)))

-- the parent of a path of one label is the root
parent_at_top : (v : Path) → nat_lt 1 (length v) ≡ false → parent v ≡ []
parent_at_top [] e = refl
parent_at_top (l ∷ []) e = refl
parent_at_top (l ∷ m ∷ ms) e = absurd (true≢false (sym (lt-ltb 1 (length (l ∷ m ∷ ms)) (omega arith)) ∙ e))

-- whoever has begun is below itself
pub under_itself : (tree : States) (n : ℕ) → is_some (slice_get (names tree) n) ≡ is_under tree n n
under_itself tree n = by (slice_get (names tree) n)
  where
    by : (o : Option Path) → is_some o ≡ is_front_of o o
    by None = refl
    by (Some t) = sym (is_front_self t)

module _ (tree : States) (nodes : List Node) (tops : Children) (is : IsTree tree) (linked : IsLinked tree nodes tops) where
  no_root_above : (a : ℕ) (u : Path) → slice_get (names tree) a ≡ Some u → is_front u [] ≡ true → ⊥
  no_root_above a u at f = by u (some_label (names tree) a u is.named at) f
    where
      by : (v : Path) → path_eq [] v ≡ false → is_front v [] ≡ true → ⊥
      by [] e g = true≢false e
      by (l ∷ ls) e g = false≢true g

  -- whoever is above has the smaller number, or is the same
  above_le : (k b : ℕ) → b < k → (a : ℕ) (u v : Path) → slice_get (names tree) a ≡ Some u → slice_get (names tree) b ≡ Some v → is_front u v ≡ true → a ≤ b
  above_le zero b small a u v at there f = absurd (omega (arith, small))
  above_le (suc k) b small a u v at there f =
      let x = node_at tree nodes tops linked b v there in
      elim (front_cases u v f) [
        | inl same ↦ let e = one_place (names tree) is.distinct u a b at (there ∙ ap Some (sym same)) in omega (arith, e)
        | inr above ↦ by (λ p l is_there g. above_le k p l a u (parent v) at is_there g) x.0.parent (linked.parents b v x.0 there x.1) above
      ]
    where
      by : ((p : ℕ) → p < k → slice_get (names tree) p ≡ Some (parent v) → is_front u (parent v) ≡ true → a ≤ p) → (o : Option ℕ) → IsParentAt (names tree) b v o → is_front u (parent v) ≡ true → a ≤ b
      by higher None root g = absurd (no_root_above a u at (subst (λ (p : Path). is_front u p ≡ true) root g))
      by higher (Some p) found g = let le = higher p (omega (arith, found.0, small)) found.1 g in omega (arith, le, found.0)

  pub le_above : (a b : ℕ) (u v : Path) → slice_get (names tree) a ≡ Some u → slice_get (names tree) b ≡ Some v → is_front u v ≡ true → a ≤ b
  le_above a b = above_le (suc b) b (omega arith) a

  pub under_parts : (a b : ℕ) → is_under tree a b ≡ true → (u : Path) × (v : Path) × (slice_get (names tree) a ≡ Some u) × (slice_get (names tree) b ≡ Some v) × (is_front u v ≡ true)
  under_parts a b e = by (slice_get (names tree) a) (slice_get (names tree) b) refl refl e
    where
      by : (o q : Option Path) → slice_get (names tree) a ≡ o → slice_get (names tree) b ≡ q → is_front_of o q ≡ true → (u : Path) × (v : Path) × (slice_get (names tree) a ≡ Some u) × (slice_get (names tree) b ≡ Some v) × (is_front u v ≡ true)
      by (Some u) (Some v) at there f = (u, v, at, there, f)
      by (Some u) None at there f = absurd (false≢true f)
      by None q at there f = absurd (false≢true f)

  -- so nobody is above one that began before
  pub not_under : (a b : ℕ) → b < a → is_under tree a b ≡ false
  not_under a b less = by (is_under tree a b) refl
    where
      by : (t : Bool) → is_under tree a b ≡ t → is_under tree a b ≡ false
      by true e = let w = under_parts a b e in let le = le_above a b w.0 w.1 w.2 w.3 w.4 in absurd (omega (arith, le, less))
      by false e = e

  -- one with a greater number is below another exactly where its parent is
  pub under_by_parent : (a n p : ℕ) → a < n → is_parent_of (slice_get (names tree) p) (slice_get (names tree) n) ≡ true → is_under tree a n ≡ is_under tree a p
  under_by_parent a n p less e = both_ways (is_under tree a n) (is_under tree a p) up down
    where
      child : (v : Path) × (slice_get (names tree) n ≡ Some v) × (slice_get (names tree) p ≡ Some (parent v))
      child = child_is (slice_get (names tree) p) (slice_get (names tree) n) e

      up : is_under tree a n ≡ true → is_under tree a p ≡ true
      up under =
          let w = under_parts a n under in
          let same : w.1 ≡ child.0 = ap (λ o. unwrap_or o w.1) (sym w.3 ∙ child.1) in
          elim (front_cases w.0 w.1 w.4) [
            | inl one ↦ let eq = one_place (names tree) is.distinct w.0 a n w.2 (w.3 ∙ ap Some (sym one)) in absurd (omega (arith, eq, less))
            | inr above ↦ ap (λ o. is_front_of o (slice_get (names tree) p)) w.2 ∙ ap (is_front_of (Some w.0)) child.2 ∙ subst (λ (v : Path). is_front w.0 (parent v) ≡ true) same above
          ]

      down : is_under tree a p ≡ true → is_under tree a n ≡ true
      down under =
          let w = under_parts a p under in
          let same : w.1 ≡ parent child.0 = ap (λ o. unwrap_or o w.1) (sym w.3 ∙ child.2) in
          ap (λ o. is_front_of o (slice_get (names tree) n)) w.2 ∙ ap (is_front_of (Some w.0)) child.1
          ∙ is_front-trans w.0 (parent child.0) child.0 (subst (λ (v : Path). is_front w.0 v ≡ true) same w.4) (is_front-parent child.0)

  -- one at the top is below nobody that began before
  pub none_above : (a n : ℕ) → a < n → has_parent (slice_get (names tree) n) ≡ false → is_under tree a n ≡ false
  none_above a n less top = by (is_under tree a n) refl
    where
      by : (t : Bool) → is_under tree a n ≡ t → is_under tree a n ≡ false
      by true e =
          let w = under_parts a n e in
          let root : parent w.1 ≡ [] = parent_at_top w.1 (ap has_parent (sym w.3) ∙ top) in
          elim (front_cases w.0 w.1 w.4) [
            | inl one ↦ let eq = one_place (names tree) is.distinct w.0 a n w.2 (w.3 ∙ ap Some (sym one)) in absurd (omega (arith, eq, less))
            | inr above ↦ absurd (no_root_above a w.0 w.2 (subst (λ (v : Path). is_front w.0 v ≡ true) root above))
          ]
      by false e = e

  -- of two above one, the deeper has the greater number
  pub rises_down : (c a b : ℕ) → is_under tree a c ≡ true → is_under tree b c ≡ true → (a ≤ b → is_under tree a b ≡ true) × (is_under tree a b ≡ true → a ≤ b)
  rises_down c a b f g = (
    λ le.
        let l = under_parts a c f in
        let r = under_parts b c g in
        let together = subst (λ (o : Path). is_front r.0 o ≡ true) (ap (λ o. unwrap_or o r.1) (sym r.3 ∙ l.3)) r.4 in
        ap (λ o. is_front_of o (slice_get (names tree) b)) l.2 ∙ ap (is_front_of (Some l.0)) r.2 ∙ (
        elim (comparable l.0 r.0 l.1 l.4 together) [
          | inl h ↦ h
          | inr h ↦
              let ge = le_above b a r.0 l.0 r.2 l.2 h in
              let same : a ≡ b = omega (arith, ge, le) in
              subst (λ (w : Path). is_front l.0 w ≡ true) (ap (λ o. unwrap_or o l.0) (sym l.2 ∙ ap (λ m. slice_get (names tree) m) same ∙ r.2)) (is_front_self l.0)
        ]),
    λ under. let w = under_parts a b under in le_above a b w.0 w.1 w.2 w.3 w.4,
  )
