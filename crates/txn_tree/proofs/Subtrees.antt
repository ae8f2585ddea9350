-- For crates above: children, siblings and subtrees by number, from the definitions in `Numbered` and `Siblings` alone.
use Rattle.std.proofs.Common.{◌≡◌, ℕ, ◌<◌, nat_eq, Bool, true, false, [], Option, Some, None, inl, inr, refl, sym, ap, subst, ◌∙◌, true≢false, arith}
use Rattle.std.specs.Prelude.{slice_get}
use Rattle.std.proofs.lemmas.Bool.{cases_lt, false≢true, eqb-true, eq-eqb}
use Rattle.txn_names.specs.Path.{Path, is_front, parent}
use Rattle.txn_names.proofs.Exports.{same_path, is_front_self, is_front-trans, is_front-parent}
use Rattle.txn_tree.specs.States.{States, names}
use Rattle.txn_tree.specs.Numbered.{is_front_of, is_parent_of, is_under}
use Rattle.txn_tree.specs.Siblings.{HasBranches, IsBefore, IsFirst, IsNext, is_child_at, is_sibling_at, is_sibling_of, is_top_at}

front_self : (a b : Option Path) → is_front_of a b ≡ true → is_front_of a a ≡ true
front_self (Some a) b e = is_front_self a
front_self None b e = absurd (false≢true e)

front-trans : (a b c : Option Path) → is_front_of a b ≡ true → is_front_of b c ≡ true → is_front_of a c ≡ true
front-trans (Some a) (Some b) (Some c) e f = is_front-trans a b c e f
front-trans (Some a) (Some b) None e f = absurd (false≢true f)
front-trans (Some a) None c e f = absurd (false≢true e)
front-trans None b c e f = absurd (false≢true e)

parent_front : (a b : Option Path) → is_parent_of a b ≡ true → is_front_of a b ≡ true
parent_front (Some a) (Some b) e = subst (λ (p : Path). is_front p b ≡ true) (same_path (parent b) a e) (is_front-parent b)
parent_front (Some a) None e = absurd (false≢true e)
parent_front None b e = absurd (false≢true e)

sibling_of_child : (a b c : Option Path) → is_parent_of a b ≡ true → is_sibling_of b c ≡ is_parent_of a c
sibling_of_child (Some a) (Some b) c e = ap (λ (p : Path). is_parent_of (Some p) c) (same_path (parent b) a e)
sibling_of_child (Some a) None c e = absurd (false≢true e)
sibling_of_child None b c e = absurd (false≢true e)

module _ (tree : States) where
  -- who is above somebody is above himself
  pub under_self : (t u : ℕ) → is_under tree t u ≡ true → is_under tree t t ≡ true
  under_self t u = front_self (slice_get (names tree) t) (slice_get (names tree) u)

  pub under-trans : (a b c : ℕ) → is_under tree a b ≡ true → is_under tree b c ≡ true → is_under tree a c ≡ true
  under-trans a b c = front-trans (slice_get (names tree) a) (slice_get (names tree) b) (slice_get (names tree) c)

  pub child_under : (t c : ℕ) → is_child_at tree t c ≡ true → is_under tree t c ≡ true
  child_under t c = parent_front (slice_get (names tree) t) (slice_get (names tree) c)

  -- the siblings of a child of t are the children of t
  pub siblings_are_children : (t c : ℕ) → is_child_at tree t c ≡ true → (m : ℕ) → is_sibling_at tree c m ≡ is_child_at tree t m
  siblings_are_children t c e m = sibling_of_child (slice_get (names tree) t) (slice_get (names tree) c) (slice_get (names tree) m) e

  pub siblings_are_tops : (c : ℕ) → is_top_at tree c ≡ true → (m : ℕ) → is_sibling_at tree c m ≡ is_top_at tree m
  siblings_are_tops c e m = sibling_of_child (Some []) (slice_get (names tree) c) (slice_get (names tree) m) e

  -- what holds of t and of all below each of its children holds of all below t
  pub subtree : (P : ℕ → Type 0) (t : ℕ) → HasBranches tree t → P t → ((c : ℕ) → is_child_at tree t c ≡ true → (u : ℕ) → is_under tree c u ≡ true → P u)
      → (u : ℕ) → is_under tree t u ≡ true → P u
  subtree P t branches own below u e = by (nat_eq t u) refl
    where
      by : (b : Bool) → nat_eq t u ≡ b → P u
      by true f = subst P (eqb-true t u f) own
      by false f = let w = branches u e (λ q. true≢false (sym (eq-eqb t u q) ∙ f)) in below w.0 w.1 u w.2

-- ---- going over those that pass in order: P holds of those before the one that is looked at

pub none_before_first : (passes : ℕ → Bool) (o : Option ℕ) → IsFirst passes o → (m : ℕ) → passes m ≡ true → IsBefore o m → ⊥
none_before_first passes None first m e before = true≢false (sym e ∙ first m)
none_before_first passes (Some c) first m e before = true≢false (sym e ∙ first.1 m before)

pub before_next : (passes siblings : ℕ → Bool) (P : ℕ → Type 0) (c : ℕ) (o : Option ℕ) → ((m : ℕ) → siblings m ≡ passes m) → IsNext siblings c o
    → ((m : ℕ) → passes m ≡ true → m < c → P m) → P c → (m : ℕ) → passes m ≡ true → IsBefore o m → P m
before_next passes siblings P c o same next before here m e earlier =
    elim (cases_lt m c) [
      | inl less ↦ before m e less
      | inr from ↦ elim (cases_lt c m) [
        | inl more ↦ absurd (none o next more earlier)
        | inr to ↦ let at : c ≡ m = omega (arith, from, to) in subst P at here
      ]
    ]
  where
    none : (q : Option ℕ) → IsNext siblings c q → c < m → IsBefore q m → ⊥
    none None f more less = true≢false (sym e ∙ sym (same m) ∙ f m more)
    none (Some d) f more less = true≢false (sym e ∙ sym (same m) ∙ f.2 m more less)
