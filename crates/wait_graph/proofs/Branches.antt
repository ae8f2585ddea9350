-- The branch by which one parts from another, found by numbers.
use Rattle.std.proofs.Common.{◌≡◌, ℕ, ◌+◌, ◌<◌, ◌≤◌, nat_lt, true, false, ◌&&◌, cond, List, [], ◌∷◌, length, Option, Some, None, inl, inr, refl, sym, ap, subst, ◌∙◌, arith}
use Rattle.std.specs.Cmp.{both_ways}
use Rattle.std.specs.Prelude.{slice_get}
use Rattle.std.proofs.lemmas.Bool.{and_from, and_parts, cases_lt, false≢true, le-ltb, lt-ltb, ltb-false, ltb-true}
use Rattle.std.proofs.lemmas.Option.{same_Some}
use Rattle.txn_names.specs.Path.{Path, is_front, label_eq, meet, parent}
use Rattle.txn_names.proofs.Exports.{is_front-parent, is_front-trans, is_front_self, length-front, length-parent, meet-greatest, meet-le, on_label, take-front}
use Rattle.txn_tree.specs.States.{States, names}
use Rattle.txn_tree.specs.Numbered.{has_parent, is_front_of, is_parent_of, is_under}
use Rattle.txn_tree.proofs.Exports.{child_parts, child_under, under-trans}
use Rattle.wait_graph.specs.Edges.{IsBranch, IsNoBranch, is_beside}

-- ---- a front of one path, and another path

-- of two paths with the same front all its labels are shared
shared : (d b u : Path) → is_front d b ≡ true → is_front d u ≡ true → length d ≤ meet u b
shared d b u front other = meet-greatest u b (length d) (length-front d u other) (length-front d b front) (take-front d u other ∙ sym (take-front d b front))

-- whoever shares all its labels has the same front
has_front : (d b u : Path) → is_front d b ≡ true → length d ≤ meet u b → is_front d u ≡ true
has_front [] b u front all = refl
has_front (x ∷ xs) [] u front all = absurd (false≢true front)
has_front (x ∷ xs) (y ∷ ys) [] front all = absurd (omega (arith, all))
has_front (x ∷ xs) (y ∷ ys) (z ∷ zs) front all =
    let p = and_parts (label_eq x y) (is_front xs ys) front in
    on_label z y (λ same. length (x ∷ xs) ≤ cond same (1 + meet zs ys) 0 → (label_eq x z && is_front xs zs) ≡ true)
    (λ e le. and_from (label_eq x z) (is_front xs zs) (subst (λ (w : List ℕ). label_eq x w ≡ true) (sym e) p.0) (has_front xs ys zs p.1 (omega (arith, le))))
    (λ _ le. absurd (omega (arith, le)))
    all

module _ (d b t : Path) (front : is_front d b ≡ true) (apart : is_front d t ≡ false) where
  fewer : meet t b < length d
  fewer = elim (cases_lt (meet t b) (length d)) [
    | inl less ↦ less
    | inr all ↦ absurd (false≢true (sym apart ∙ has_front d b t front all))
  ]

  -- where another shares all labels of the front but the last, one shares more exactly where it has the front
  shares_more : length d ≤ meet t b + 1 → (u : Path) → nat_lt (meet t b) (meet u b) ≡ is_front d u
  shares_more last u = both_ways (nat_lt (meet t b) (meet u b)) (is_front d u)
      (λ e. has_front d b u front (omega (arith, ltb-true (meet t b) (meet u b) e, last)))
      (λ e. lt-ltb (meet t b) (meet u b) (omega (arith, fewer, shared d b u front e)))

-- ---- in a tree

named : (tree : States) (a b : ℕ) → is_under tree a b ≡ true → (u : Path) × (v : Path) × (slice_get (names tree) a ≡ Some u) × (slice_get (names tree) b ≡ Some v) × (is_front u v ≡ true)
named tree a b e = by (slice_get (names tree) a) (slice_get (names tree) b) refl refl e
  where
    by : (o q : Option Path) → slice_get (names tree) a ≡ o → slice_get (names tree) b ≡ q → is_front_of o q ≡ true
        → (u : Path) × (v : Path) × (slice_get (names tree) a ≡ Some u) × (slice_get (names tree) b ≡ Some v) × (is_front u v ≡ true)
    by (Some u) (Some v) at there f = (u, v, at, there, f)
    by (Some u) None at there f = absurd (false≢true f)
    by None q at there f = absurd (false≢true f)

-- it is b or above it, and not so with t
pub record IsParting (tree : States) (t b top : ℕ) : Type 0 where
  pub above : is_under tree top b ≡ true
  pub apart : is_under tree top t ≡ false

module _ (tree : States) (t b : ℕ) where
  pub first_parting : (holder : Path) → slice_get (names tree) b ≡ Some holder → is_under tree b t ≡ false → IsParting tree t b b
  first_parting holder at apart = record { above = ap (λ o. is_front_of o o) at ∙ is_front_self holder; apart = apart }

  pub next_parting : (top p : ℕ) → IsParting tree t b top → is_parent_of (slice_get (names tree) p) (slice_get (names tree) top) ≡ true → is_under tree p t ≡ false → IsParting tree t b p
  next_parting top p is child apart = record { above = under-trans tree p top b (child_under tree p top child) is.above; apart = apart }

  module _ (top : ℕ) (is : IsParting tree t b top) (name : Path) (at : slice_get (names tree) t ≡ Some name) where
    branch : (d holder : Path) → slice_get (names tree) top ≡ Some d → slice_get (names tree) b ≡ Some holder → is_front d holder ≡ true → length d ≤ meet name holder + 1 → IsBranch tree t b top
    branch d holder here there front last u =
        ap (λ o. is_beside o (slice_get (names tree) b) (slice_get (names tree) u)) at
        ∙ ap (λ o. is_beside (Some name) o (slice_get (names tree) u)) there
        ∙ by (slice_get (names tree) u)
        ∙ ap (λ o. is_front_of o (slice_get (names tree) u)) (sym here)
      where
        parts : is_front d name ≡ false
        parts = sym (ap (λ o. is_front_of o (slice_get (names tree) t)) here ∙ ap (is_front_of (Some d)) at) ∙ is.apart

        by : (o : Option Path) → is_beside (Some name) (Some holder) o ≡ is_front_of (Some d) o
        by None = refl
        by (Some v) = shares_more d holder name front parts last v

    -- it is top-level
    pub branch_at_top : has_parent (slice_get (names tree) top) ≡ false → IsBranch tree t b top
    branch_at_top lone =
        let w = named tree top b is.above in
        branch w.0 w.1 w.2 w.3 w.4 (omega (arith, ltb-false 1 (length w.0) (ap has_parent (sym w.2) ∙ lone)))

    -- its parent is t or above it
    pub branch_below : (p : ℕ) → is_parent_of (slice_get (names tree) p) (slice_get (names tree) top) ≡ true → is_under tree p t ≡ true → IsBranch tree t b top
    branch_below p child above =
        let w = named tree top b is.above in
        let x = child_parts (slice_get (names tree) p) (slice_get (names tree) top) child in
        let y = named tree p t above in
        let same : x.1 ≡ w.0 = same_Some x.1 w.0 (sym x.3 ∙ w.2) in
        let higher : y.0 ≡ parent w.0 = same_Some y.0 x.0 (sym y.2 ∙ x.2) ∙ sym x.4 ∙ ap parent same in
        let lower : y.1 ≡ name = same_Some y.1 name (sym y.3 ∙ at) in
        let front : is_front (parent w.0) name ≡ true = subst (λ (v : Path). is_front (parent w.0) v ≡ true) lower (subst (λ (v : Path). is_front v y.1 ≡ true) higher y.4) in
        let most = shared (parent w.0) w.1 name (is_front-trans (parent w.0) w.0 w.1 (is_front-parent w.0) w.4) front in
        branch w.0 w.1 w.2 w.3 w.4 (omega (arith, most, length-parent w.0))

  -- ---- there is none

  pub none_from_nobody : None ≡ slice_get (names tree) t → IsNoBranch tree t b
  none_from_nobody none u = ap (λ o. is_beside o (slice_get (names tree) b) (slice_get (names tree) u)) (sym none)

  pub none_of_nobody : None ≡ slice_get (names tree) b → IsNoBranch tree t b
  none_of_nobody none u = ap (λ o. is_beside (slice_get (names tree) t) o (slice_get (names tree) u)) (sym none) ∙ by (slice_get (names tree) t)
    where
      by : (o : Option Path) → is_beside o None (slice_get (names tree) u) ≡ false
      by None = refl
      by (Some v) = refl

  pub none_above : is_under tree b t ≡ true → IsNoBranch tree t b
  none_above above u =
      let w = named tree b t above in
      ap (λ o. is_beside o (slice_get (names tree) b) (slice_get (names tree) u)) w.3
      ∙ ap (λ o. is_beside (Some w.1) o (slice_get (names tree) u)) w.2
      ∙ by w.0 w.1 w.4 (slice_get (names tree) u)
    where
      by : (holder name : Path) → is_front holder name ≡ true → (o : Option Path) → is_beside (Some name) (Some holder) o ≡ false
      by holder name front None = refl
      by holder name front (Some v) = le-ltb (meet name holder) (meet v holder) (omega (arith, shared holder holder name (is_front_self holder) front, (meet-le v holder).1))
