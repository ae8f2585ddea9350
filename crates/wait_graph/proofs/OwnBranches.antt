-- Who is alone in the branch by which it parts from another.
use Rattle.std.proofs.Common.{◌≡◌, ℕ, ◌+◌, ◌<◌, nat_eq, Bool, true, false, [], ◌∷◌, length, take, Option, Some, None, is_some, refl, sym, ap, subst, ◌∙◌, arith}
use Rattle.std.specs.Prelude.{slice_get}
use Rattle.std.proofs.lemmas.Bool.{eq-eqb, eqb-true, false≢true, ltb-true}
use Rattle.txn_names.specs.Path.{Path, is_front, meet}
use Rattle.txn_names.proofs.Exports.{is_front-take, meet-le, take-meet}
use Rattle.txn_tree.specs.States.{States, names}
use Rattle.txn_tree.specs.Siblings.{HasBranches, IsFirst, is_child_at}
use Rattle.txn_tree.specs.Numbered.{is_front_of, is_under}
use Rattle.wait_graph.specs.Edges.{IsOwnBranch, is_beside, is_in_branch}

-- nobody else is below one without children
lone : (tree : States) (b : ℕ) → ((m : ℕ) → is_child_at tree b m ≡ false) → HasBranches tree b → (u : ℕ) → is_under tree b u ≡ true → b ≡ u
lone tree b none branches u under = by (nat_eq b u) refl
  where
    by : (c : Bool) → nat_eq b u ≡ c → b ≡ u
    by true e = eqb-true b u e
    by false e =
        let c = branches u under (λ same. false≢true (sym e ∙ eq-eqb b u same)) in
        absurd (false≢true (sym (none c.0) ∙ c.1))

-- where there is no first one that passes none does
pub none_first : (passes : ℕ → Bool) (o : Option ℕ) → is_some o ≡ false → IsFirst passes o → (m : ℕ) → passes m ≡ false
none_first passes None e first = first
none_first passes (Some c) e first = absurd (false≢true (sym e))

-- where all labels are shared the first goes on
whole_front : (b u : Path) → meet u b ≡ length b → is_front b u ≡ true
whole_front b u all =
    let same : take (meet u b) u ≡ b = take-meet u b ∙ ap (λ n. take n b) all ∙ whole b in
    subst (λ (x : Path). is_front x u ≡ true) same (is_front-take (meet u b) u)
  where
    whole : (x : Path) → take (length x) x ≡ x
    whole [] = refl
    whole (y ∷ ys) = ap (λ zs. y ∷ zs) (whole ys)

module _ (tree : States) (t b : ℕ) (name holder : Path) (here : slice_get (names tree) t ≡ Some name) (there : slice_get (names tree) b ≡ Some holder) where
  beside_it : (u : ℕ) → is_in_branch tree t b u ≡ true → (other : Path) × (slice_get (names tree) u ≡ Some other) × (meet name holder < meet other holder)
  beside_it u e = by (slice_get (names tree) u) refl (sym (ap (λ o. is_beside o (slice_get (names tree) b) (slice_get (names tree) u)) here ∙ ap (λ o. is_beside (Some name) o (slice_get (names tree) u)) there) ∙ e)
    where
      by : (o : Option Path) → slice_get (names tree) u ≡ o → is_beside (Some name) (Some holder) o ≡ true → (other : Path) × (slice_get (names tree) u ≡ Some other) × (meet name holder < meet other holder)
      by None at f = absurd (false≢true f)
      by (Some other) at f = (other, at, ltb-true (meet name holder) (meet other holder) f)

  -- there is no branch, where the one is above the other
  pub own_above : meet name holder ≡ length holder → IsOwnBranch tree t b
  own_above all u e =
      let o = beside_it u e in
      absurd (omega (arith, all, o.2, (meet-le o.0 holder).1))

  -- it has the branch for itself, where it parts by itself and has no descendants
  pub own_leaf : meet name holder + 1 ≡ length holder → ((m : ℕ) → is_child_at tree b m ≡ false) → HasBranches tree b → IsOwnBranch tree t b
  own_leaf parts none branches u e =
      let o = beside_it u e in
      let all : meet o.0 holder ≡ length holder = omega (arith, parts, o.2, (meet-le o.0 holder).1) in
      let under : is_under tree b u ≡ true = ap (λ x. is_front_of x (slice_get (names tree) u)) there ∙ ap (is_front_of (Some holder)) o.1 ∙ whole_front holder o.0 all in
      lone tree b none branches u under
