-- What the links say of children and siblings by their numbers.
use Rattle.std.proofs.Common.{◌≡◌, ◌≢◌, ℕ, zero, suc, ◌<◌, ◌≤◌, ◌⊎◌, get_or, true, false, List, [], ◌∷◌, length, take, Option, Some, None, is_some, unwrap_or, inl, inr, refl, sym, ap, subst, ◌∙◌, true≢false, arith}
use Rattle.std.specs.Prelude.{slice_get, IfSome}
use Rattle.std.proofs.lemmas.Bool.{false≢true}
use Rattle.std.proofs.lemmas.Option.{slice_get_past, slice_get_cases}
use Rattle.std.proofs.lemmas.Map.Entries.{length-keys_of}
use Rattle.txn_names.specs.Path.{Path, path_eq, is_front, parent}
use Rattle.txn_names.proofs.Exports.{same_path, path_eq-from, length-parent, take-front, front_cases, child_towards}
use Rattle.txn_tree.specs.declared.node.Children.{Children}
use Rattle.txn_tree.specs.declared.node.Node.{Node}
use Rattle.txn_tree.specs.States.{States, IsTree, names}
use Rattle.txn_tree.specs.Numbered.{is_front_of, is_parent_of, is_under, live_children_named, live_children_at}
use Rattle.txn_tree.specs.Siblings.{HasBranches, IsFirst, IsNext, is_child_at, is_sibling_at, is_sibling_of}
use Rattle.txn_tree.specs.Linked.{IsLinked, IsParentAt, children_in, is_child_in, kept_next}
use Rattle.txn_tree.proofs.Links.{node_at, some_label}
use Rattle.txn_tree.proofs.Places.{one_place}
use Rattle.txn_tree.proofs.Under.{le_above, under_parts}

pub child_parts : (a b : Option Path) → is_parent_of a b ≡ true → (t : Path) × (u : Path) × (a ≡ Some t) × (b ≡ Some u) × (parent u ≡ t)
child_parts (Some t) (Some u) e = (t, u, refl, refl, same_path (parent u) t e)
child_parts (Some t) None e = absurd (false≢true e)
child_parts None b e = absurd (false≢true e)

module _ (tree : States) (nodes : List Node) (tops : Children) (is : IsTree tree) (linked : IsLinked tree nodes tops) where
  -- nobody has a number that has no node
  no_node : (n : ℕ) → slice_get (names tree) n ≡ None → slice_get nodes n ≡ None
  no_node n none = by (slice_get_cases (names tree) n).1
    where
      by : ((x : Path) × (n < length (names tree)) × (slice_get (names tree) n ≡ Some x) × (get_or (names tree) n x ≡ x)) ⊎ ((length (names tree) ≤ n) × (slice_get (names tree) n ≡ None)) → slice_get nodes n ≡ None
      by (inl w) = absurd (true≢false (ap is_some (sym w.2 ∙ none)))
      by (inr past) = slice_get_past nodes n (omega (arith, past.0, linked.level, length-keys_of tree))

  pub first_at : (n : ℕ) → IsFirst (is_child_at tree n) (children_in (slice_get nodes n)).first
  first_at n = by (slice_get (names tree) n) refl
    where
      by : (o : Option Path) → slice_get (names tree) n ≡ o → IsFirst (λ m. is_parent_of o (slice_get (names tree) m)) (children_in (slice_get nodes n)).first
      by None none = rw (no_node n none) (λ m. refl)
      by (Some t) at = let x = node_at tree nodes tops linked n t at in rw x.1 (linked.children n t x.0 at x.1).first

  pub live_at : (n : ℕ) → (children_in (slice_get nodes n)).live ≡ live_children_at tree n
  live_at n = by (slice_get (names tree) n) refl
    where
      by : (o : Option Path) → slice_get (names tree) n ≡ o → (children_in (slice_get nodes n)).live ≡ live_children_named tree o
      by None none = rw (no_node n none) refl
      by (Some t) at = let x = node_at tree nodes tops linked n t at in rw x.1 (linked.children n t x.0 at x.1).live

  pub next_at : (n : ℕ) → IsNext (is_sibling_at tree n) n (kept_next (slice_get nodes n))
  next_at n = by (slice_get (names tree) n) refl
    where
      by : (o : Option Path) → slice_get (names tree) n ≡ o → IsNext (λ m. is_sibling_of o (slice_get (names tree) m)) n (kept_next (slice_get nodes n))
      by None none = rw (no_node n none) (λ m more. refl)
      by (Some t) at = let x = node_at tree nodes tops linked n t at in rw x.1 (linked.next n t x.0 at x.1)

  -- a child began after its parent
  pub child_later : (n c : ℕ) → is_child_at tree n c ≡ true → n < c
  child_later n c e =
      let w = child_parts (slice_get (names tree) n) (slice_get (names tree) c) e in
      let x = node_at tree nodes tops linked c w.1 w.3 in
      by w.0 w.1 w.2 w.4 x.0.parent (linked.parents c w.1 x.0 w.3 x.1)
    where
      by : (t u : Path) → slice_get (names tree) n ≡ Some t → parent u ≡ t → (o : Option ℕ) → IsParentAt (names tree) c u o → n < c
      by t u at of None root = absurd (true≢false (sym (path_eq-from [] t (sym root ∙ of)) ∙ some_label (names tree) n t is.named at))
      by t u at of (Some p) found = let same = one_place (names tree) is.distinct t n p at (found.1 ∙ ap Some of) in omega (arith, same, found.0)

  pub first_later : (n : ℕ) → IfSome (children_in (slice_get nodes n)).first (λ c. n < c)
  first_later n = by (children_in (slice_get nodes n)).first (first_at n)
    where
      by : (o : Option ℕ) → IsFirst (is_child_at tree n) o → IfSome o (λ c. n < c)
      by None f = tt
      by (Some c) f = child_later n c f.0

  pub some_top : (is_some tops.first ≡ true → tree ≢ []) × (tree ≢ [] → is_some tops.first ≡ true)
  some_top = (λ e empty. by_top tops.first linked.top_level.first e empty, λ some. by_name tops.first linked.top_level.first (slice_get (names tree) 0) refl some)
    where
      by_top : (o : Option ℕ) → IsFirst (is_child_in (names tree) []) o → is_some o ≡ true → tree ≡ [] → ⊥
      by_top None f e empty = false≢true e
      by_top (Some c) f e empty = false≢true (sym (ap (λ s. is_child_in (names s) [] c) empty) ∙ f.0)

      top_is : (t : Path) → slice_get (names tree) 0 ≡ Some t → (o : Option ℕ) → IsParentAt (names tree) 0 t o → is_child_in (names tree) [] 0 ≡ true
      top_is t at None root = ap (is_parent_of (Some [])) at ∙ path_eq-from (parent t) [] root
      top_is t at (Some p) found = absurd (omega (arith, found.0))

      nobody : (s : States) → slice_get (names s) 0 ≡ None → s ≡ []
      nobody [] e = refl
      nobody (r ∷ rs) e = absurd (true≢false (ap is_some e))

      by_name : (o : Option ℕ) → IsFirst (is_child_in (names tree) []) o → (q : Option Path) → slice_get (names tree) 0 ≡ q → tree ≢ [] → is_some o ≡ true
      by_name (Some c) f q at some = refl
      by_name None f None at some = absurd (some (nobody tree at))
      by_name None f (Some t) at some =
          let x = node_at tree nodes tops linked 0 t at in
          absurd (true≢false (sym (top_is t at x.0.parent (linked.parents 0 t x.0 at x.1)) ∙ f 0))

  -- whoever is above one that has begun has begun
  front_at : (k b : ℕ) → b < k → (v : Path) → slice_get (names tree) b ≡ Some v → (l : List ℕ) (ls : Path) → is_front (l ∷ ls) v ≡ true → (n : ℕ) × (slice_get (names tree) n ≡ Some (l ∷ ls))
  front_at zero b small v at l ls f = absurd (omega (arith, small))
  front_at (suc k) b small v at l ls f =
      let x = node_at tree nodes tops linked b v at in
      elim (front_cases (l ∷ ls) v f) [
        | inl same ↦ (b, at ∙ ap Some (sym same))
        | inr above ↦ by (λ p less there g. front_at k p less (parent v) there l ls g) x.0.parent (linked.parents b v x.0 at x.1) above
      ]
    where
      by : ((p : ℕ) → p < k → slice_get (names tree) p ≡ Some (parent v) → is_front (l ∷ ls) (parent v) ≡ true → (n : ℕ) × (slice_get (names tree) n ≡ Some (l ∷ ls)))
          → (o : Option ℕ) → IsParentAt (names tree) b v o → is_front (l ∷ ls) (parent v) ≡ true → (n : ℕ) × (slice_get (names tree) n ≡ Some (l ∷ ls))
      by higher None root g = absurd (false≢true (subst (λ (p : Path). is_front (l ∷ ls) p ≡ true) root g))
      by higher (Some p) found g = higher p (omega (arith, found.0, small)) found.1 g

  pub front_begun : (b : ℕ) (v : Path) → slice_get (names tree) b ≡ Some v → (l : List ℕ) (ls : Path) → is_front (l ∷ ls) v ≡ true → (n : ℕ) × (slice_get (names tree) n ≡ Some (l ∷ ls))
  front_begun b = front_at (suc b) b (omega arith)

  -- of one path's children one alone is above another path
  pub one_branch : (t u d : Path) (l : List ℕ) (ls : Path) → parent (l ∷ ls) ≡ t → parent d ≡ t → path_eq [] d ≡ false → is_front (l ∷ ls) u ≡ true → is_front d u ≡ true → d ≡ l ∷ ls
  one_branch t u [] l ls up also some f g = absurd (true≢false some)
  one_branch t u (m ∷ ms) l ls up also some f g =
      let e = ap length (up ∙ sym also) in
      let same : length (m ∷ ms) ≡ length (l ∷ ls) = omega (arith, e, length-parent (l ∷ ls), length-parent (m ∷ ms)) in
      sym (take-front (m ∷ ms) u g) ∙ ap (λ n. take n u) same ∙ take-front (l ∷ ls) u f

  pub branches : (n : ℕ) → HasBranches tree n
  branches n u under other =
      let w = under_parts tree nodes tops is linked n u under in
      by w.0 w.1 w.2 w.3 (child_towards w.0 w.1 w.4)
    where
      by : (t v : Path) → slice_get (names tree) n ≡ Some t → slice_get (names tree) u ≡ Some v
          → (t ≡ v) ⊎ ((l : List ℕ) × (ls : Path) × (parent (l ∷ ls) ≡ t) × (is_front (l ∷ ls) v ≡ true))
          → (c : ℕ) × (is_child_at tree n c ≡ true) × (is_under tree c u ≡ true) × (c ≤ u) × ((d : ℕ) → is_child_at tree n d ≡ true → is_under tree d u ≡ true → d ≡ c)
      by t v at there (inl same) = absurd (other (one_place (names tree) is.distinct v n u (at ∙ ap Some same) there))
      by t v at there (inr w) =
          let c = front_begun u v there w.0 w.1 w.3 in (
            c.0,
            ap (λ o. is_parent_of o (slice_get (names tree) c.0)) at ∙ ap (is_parent_of (Some t)) c.1 ∙ path_eq-from (parent (w.0 ∷ w.1)) t w.2,
            ap (λ o. is_front_of o (slice_get (names tree) u)) c.1 ∙ ap (is_front_of (Some (w.0 ∷ w.1))) there ∙ w.3,
            le_above tree nodes tops is linked c.0 u (w.0 ∷ w.1) v c.1 there w.3,
            λ d child below.
                let x = child_parts (slice_get (names tree) n) (slice_get (names tree) d) child in
                let y = under_parts tree nodes tops is linked d u below in
                let name : y.0 ≡ x.1 = ap (λ o. unwrap_or o y.0) (sym y.2 ∙ x.3) in
                let here : x.0 ≡ t = ap (λ o. unwrap_or o x.0) (sym x.2 ∙ at) in
                let leaf : y.1 ≡ v = ap (λ o. unwrap_or o y.1) (sym y.3 ∙ there) in
                let above : is_front x.1 v ≡ true = subst (λ (q : Path). is_front q v ≡ true) name (subst (λ (q : Path). is_front y.0 q ≡ true) leaf y.4) in
                let same = one_branch t v x.1 w.0 w.1 w.2 (x.4 ∙ here) (some_label (names tree) d x.1 is.named x.3) w.3 above in
                one_place (names tree) is.distinct (w.0 ∷ w.1) d c.0 (x.3 ∙ ap Some same) c.1,
          )
