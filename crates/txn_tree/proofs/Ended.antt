-- What is kept beside the states is right after an end.
use Rattle.std.proofs.Common.{◌≡◌, ℕ, ◌+◌, ◌<◌, Bool, true, false, ◌&&◌, cond, count_by, List, [], ◌∷◌, length, get_or, Option, Some, None, refl, sym, ap, subst, ◌∙◌, true≢false, arith}
use Rattle.std.specs.Prelude.{slice_get, IfSome}
use Rattle.std.proofs.lemmas.Option.{get_or_from_slice_get, slice_get_within}
use Rattle.std.proofs.lemmas.Map.Entries.{length-keys_of}
use Rattle.txn_names.specs.Path.{Path, path_eq, parent}
use Rattle.txn_names.proofs.Exports.{path_eq-from, path_eq_self}
use Rattle.txn_tree.specs.declared.node.Children.{Children}
use Rattle.txn_tree.specs.declared.node.Node.{Node}
use Rattle.txn_tree.specs.declared.status.Status.{Status}
use Rattle.txn_tree.specs.declared.status.Status.TheVariants.{Live}
use Rattle.txn_tree.specs.States.{States, IsTree, names, status_in, is_live}
use Rattle.txn_tree.specs.Asked.{live_children_of}
use Rattle.txn_tree.specs.Siblings.{IsFirst, IsLast}
use Rattle.txn_tree.specs.Linked.{IsChildrenOf, IsLinked, IsParentAt, below, children_in, is_at, is_child_in, top_with, with_below, with_one_ended}
use Rattle.txn_tree.proofs.Links.{live_ended, node_at, place_is, some_label}
use Rattle.txn_tree.proofs.Nodes.{below_at, changed, length_below}

module _ (tree : States) (nodes : List Node) (tops : Children) (is : IsTree tree) (linked : IsLinked tree nodes tops)
    (n i : ℕ) (t : Path) (x : Node) (at : slice_get (names tree) n ≡ Some t) (read : x ≡ get_or nodes i x) (place : i ≡ n)
    (lived : status_in tree t ≡ Live) (next : States) (to : Status) (same_names : names next ≡ names tree)
    (over : is_live to ≡ false) (ends : (u : Path) → status_in next u ≡ cond (path_eq t u) to (status_in tree u)) where
  there : slice_get nodes n ≡ Some x
  there =
      let w = node_at tree nodes tops linked n t at in
      let same : x ≡ get_or nodes n x = read ∙ ap (λ m. get_or nodes m x) place in
      w.1 ∙ ap Some (sym (get_or_from_slice_get nodes n w.0 x w.1) ∙ sym same)

  abbrev kept : Children
  kept = below nodes tops x.parent

  parent_at : IsParentAt (names tree) n t x.parent
  parent_at = linked.parents n t x at there

  pub parent_within : IfSome x.parent (λ p. p < length nodes)
  parent_within = by x.parent parent_at
    where
      by : (q : Option ℕ) → IsParentAt (names tree) n t q → IfSome q (λ p. p < length nodes)
      by None root = tt
      by (Some p) found = let within = slice_get_within nodes n x there in omega (arith, within, found.0)

  left : (p : Path) → live_children_of tree p ≡ live_children_of next p + cond (path_eq (parent t) p) 1 0
  left p = live_ended (names tree) (status_in tree) (status_in next) t to ends n at is.distinct lived over p
      ∙ ap (λ k. k + cond (path_eq (parent t) p) 1 0) (ap (count_by (λ u. path_eq (parent u) p && is_live (status_in next u))) (sym same_names))

  less : (p : Path) (c : Children) → path_eq (parent t) p ≡ true → IsChildrenOf tree p c → IsChildrenOf next p (with_one_ended c)
  less p c e of = record {
    live = let sum : live_children_of tree p ≡ live_children_of next p + 1 = left p ∙ ap (λ b. live_children_of next p + cond b 1 0) e in let live = of.live in omega (arith, sum, live);
    first = subst (λ (ns : List Path). IsFirst (is_child_in ns p) c.first) (sym same_names) of.first;
    last = subst (λ (ns : List Path). IsLast (is_child_in ns p) c.last) (sym same_names) of.last;
  }

  still : (p : Path) (c : Children) → path_eq (parent t) p ≡ false → IsChildrenOf tree p c → IsChildrenOf next p c
  still p c e of = record {
    live = let sum : live_children_of tree p ≡ live_children_of next p + 0 = left p ∙ ap (λ b. live_children_of next p + cond b 1 0) e in let live = of.live in omega (arith, sum, live);
    first = subst (λ (ns : List Path). IsFirst (is_child_in ns p) c.first) (sym same_names) of.first;
    last = subst (λ (ns : List Path). IsLast (is_child_in ns p) c.last) (sym same_names) of.last;
  }

  parents_children : IsChildrenOf tree (parent t) kept
  parents_children = by x.parent parent_at
    where
      by : (q : Option ℕ) → IsParentAt (names tree) n t q → IsChildrenOf tree (parent t) (below nodes tops q)
      by None root = subst (λ (p : Path). IsChildrenOf tree p tops) (sym root) linked.top_level
      by (Some p) found =
          let y = node_at tree nodes tops linked p (parent t) found.1 in
          subst (λ (c : Children). IsChildrenOf tree (parent t) c) (sym (ap children_in y.1)) (linked.children p (parent t) y.0 found.1 y.1)

  -- the count that goes down is not 0
  pub may_go_down : 0 < kept.live
  may_go_down =
      let sum : live_children_of tree (parent t) ≡ live_children_of next (parent t) + 1 = left (parent t) ∙ ap (λ b. live_children_of next (parent t) + cond b 1 0) (path_eq_self (parent t)) in
      let live = parents_children.live in
      omega (arith, sum, live)

  -- the parent has a live child less
  with_less : (m : ℕ) (u : Path) (z : Node) → slice_get (names tree) m ≡ Some u → slice_get nodes m ≡ Some z → IsChildrenOf next u (cond (is_at x.parent m) (with_one_ended kept) z.children)
  with_less m u z here found = by (is_at x.parent m) refl
    where
      parent_is : is_at x.parent m ≡ path_eq (parent t) u
      parent_is = place_is (names tree) n t x.parent is.named is.distinct parent_at m u here

      by : (b : Bool) → is_at x.parent m ≡ b → IsChildrenOf next u (cond b (with_one_ended kept) z.children)
      by true e = less u kept (sym parent_is ∙ e) (subst (λ (c : Children). IsChildrenOf tree u c) (sym (below_at nodes tops x.parent m z found e)) (linked.children m u z here found))
      by false e = still u z.children (sym parent_is ∙ e) (linked.children m u z here found)

  top_level : IsChildrenOf next [] (top_with tops x.parent (with_one_ended kept))
  top_level = by x.parent parent_at
    where
      by : (q : Option ℕ) → IsParentAt (names tree) n t q → IsChildrenOf next [] (top_with tops q (with_one_ended (below nodes tops q)))
      by None root = less [] tops (path_eq-from (parent t) [] root) linked.top_level
      by (Some p) found = still [] tops (not_root (parent t) (some_label (names tree) p (parent t) is.named found.1)) linked.top_level
        where
          not_root : (u : Path) → path_eq [] u ≡ false → path_eq u [] ≡ false
          not_root [] e = absurd (true≢false e)
          not_root (l ∷ ls) e = refl

  pub ended : (all : List Node) (all_tops : Children) → all ≡ with_below nodes x.parent (with_one_ended kept) → all_tops ≡ top_with tops x.parent (with_one_ended kept) → IsLinked next all all_tops
  ended all all_tops same_all same_tops = record {
    level =
        let e = ap length same_names in
        let as_long : length all ≡ length nodes = ap length same_all ∙ length_below nodes x.parent (with_one_ended kept) in
        omega (arith, e, as_long, linked.level, length-keys_of next, length-keys_of tree);
    parents = λ m u y here found. let w = from m y found in rw (same_names, w.2) (linked.parents m u w.0 (old m u here) w.1);
    next = λ m u y here found. let w = from m y found in rw (same_names, w.2) (linked.next m u w.0 (old m u here) w.1);
    children = λ m u y here found. let w = from m y found in rw w.2 (with_less m u w.0 (old m u here) w.1);
    top_level = subst (λ (c : Children). IsChildrenOf next [] c) (sym same_tops) top_level;
  }
    where
      old : (m : ℕ) (u : Path) → slice_get (names next) m ≡ Some u → slice_get (names tree) m ≡ Some u
      old m u here = ap (λ (ns : List Path). slice_get ns m) (sym same_names) ∙ here

      from : (m : ℕ) (y : Node) → slice_get all m ≡ Some y
          → (z : Node) × (slice_get nodes m ≡ Some z) × (y ≡ record { parent = z.parent; next = z.next; children = cond (is_at x.parent m) (with_one_ended kept) z.children })
      from m y found = changed nodes x.parent None (with_one_ended kept) 0 m y (subst (λ (zs : List Node). slice_get zs m ≡ Some y) same_all found)
