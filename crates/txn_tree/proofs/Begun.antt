-- What is kept beside the states is right after a begin.
use Rattle.std.proofs.Common.{◌≡◌, ℕ, ◌+◌, ◌<◌, ◌≤◌, Bool, true, false, ◌&&◌, cond, count_by, List, [], ◌∷◌, ◌++◌, length, Option, Some, None, ◌⊎◌, inl, inr, refl, sym, ap, subst, ◌∙◌, true≢false, All, length-append, arith}
use Rattle.std.specs.Prelude.{slice_get, IfSome}
use Rattle.std.proofs.lemmas.Bool.{cases_lt, eqb-true, leb-true}
use Rattle.std.proofs.lemmas.Option.{slice_get_within}
use Rattle.std.proofs.lemmas.List.Sums.{count_by-le-length}
use Rattle.std.proofs.lemmas.Map.Entries.{length-keys_of}
use Rattle.txn_names.specs.Path.{Path, path_eq, parent}
use Rattle.txn_names.specs.Text.{IsName}
use Rattle.txn_names.proofs.Exports.{same_path, path_eq-from}
use Rattle.serial_spec.specs.Allowed.{most_transactions}
use Rattle.txn_tree.specs.declared.node.Children.{Children}
use Rattle.txn_tree.specs.declared.node.Node.{Node}
use Rattle.txn_tree.specs.declared.status.Status.TheVariants.{Live}
use Rattle.txn_tree.specs.States.{States, IsTree, names, status_in, is_live}
use Rattle.txn_tree.specs.Asked.{live_children_of}
use Rattle.txn_tree.specs.Numbered.{is_parent_of}
use Rattle.txn_tree.specs.Siblings.{IsLast, IsNext}
use Rattle.txn_tree.specs.Linked.{IsChildrenOf, IsLinked, IsParentAt, below, begun_node, children_in, followed, is_at, is_child_in, no_children, top_with, with_below, with_child}
use Rattle.txn_tree.proofs.Places.{get_before, get_front, get_pushed, get_last}
use Rattle.txn_tree.proofs.Changes.{keys-push}
use Rattle.txn_tree.proofs.Threads.{first_same, last_same, next_same, first_more, last_more, next_more}
use Rattle.txn_tree.proofs.Links.{live_begun, node_at, no_child, no_live_child, parent_front, place_is, some_label}
use Rattle.txn_tree.proofs.Nodes.{below_at, changed, child_within, length_changed, no_child_past}

module _ (tree : States) (nodes : List Node) (tops : Children) (is : IsTree tree) (linked : IsLinked tree nodes tops)
    (t : Path) (o : Option ℕ) (k : ℕ) (last_place : k ≡ length tree) (below_parent : IsParentAt (names tree) (length tree) t o) where
  abbrev own : Node
  own = begun_node o

  abbrev grown : List Node
  grown = nodes ++ own ∷ []

  abbrev kept : Children
  kept = below grown tops o

  end : k ≡ length (names tree)
  end = last_place ∙ sym (length-keys_of tree)

  -- what is kept is that of the parent's children
  pub parents_children : IsChildrenOf tree (parent t) kept
  parents_children = by o below_parent
    where
      by : (q : Option ℕ) → IsParentAt (names tree) (length tree) t q → IsChildrenOf tree (parent t) (below grown tops q)
      by None root = subst (λ (p : Path). IsChildrenOf tree p tops) (sym root) linked.top_level
      by (Some p) found =
          let x = node_at tree nodes tops linked p (parent t) found.1 in
          subst (λ (c : Children). IsChildrenOf tree (parent t) c) (sym (ap children_in (get_front nodes (own ∷ []) p x.0 x.1))) (linked.children p (parent t) x.0 found.1 x.1)

  -- a count is at most the number of transactions
  pub may_go_up : kept.live + 1 < 4294967296
  may_go_up =
      let few : length tree ≤ most_transactions = is.few in
      let fit : most_transactions ≤ 4294967294 = leb-true most_transactions 4294967294 refl in
      let live = parents_children.live in
      let most : live_children_of tree (parent t) ≤ length (names tree) = count_by-le-length (λ u. path_eq (parent u) (parent t) && is_live (status_in tree u)) (names tree) in
      omega (arith, few, fit, live, most, length-keys_of tree)

  pub last_within : (n : ℕ) → length nodes + 1 ≡ n → IfSome kept.last (λ l. l < n)
  last_within n longer = by kept.last parents_children.last
    where
      by : (q : Option ℕ) → IsLast (is_child_in (names tree) (parent t)) q → IfSome q (λ l. l < n)
      by None none = tt
      by (Some l) found = let within = child_within (names tree) (parent t) l found.0 in omega (arith, within, longer, linked.level, length-keys_of tree)

  module _ (name : IsName t) (fresh : (m : ℕ) → slice_get (names tree) m ≡ Some t → ⊥)
      (next : States) (pushed : next ≡ tree ++ (t, Live) ∷ []) (after : IsTree next)
      (begun : (u : Path) → status_in next u ≡ cond (path_eq t u) Live (status_in tree u)) where
    same_names : names next ≡ names tree ++ t ∷ []
    same_names = ap names pushed ∙ keys-push tree t Live

    longer : length (names next) ≡ k + 1
    longer = ap length same_names ∙ length-append (names tree) (t ∷ []) ∙ ap (λ n. n + 1) (sym end)

    -- ---- who is a child now

    before : (p : Path) (m : ℕ) → m < k → is_child_in (names next) p m ≡ is_child_in (names tree) p m
    before p m less = ap (λ ns. is_child_in ns p m) same_names ∙ ap (is_parent_of (Some p)) (get_before (names tree) t m (omega (arith, less, end)))

    here : (p : Path) → is_child_in (names next) p k ≡ path_eq (parent t) p
    here p = ap (λ ns. is_child_in ns p k) same_names ∙ ap (is_parent_of (Some p)) (ap (slice_get (names tree ++ t ∷ [])) end ∙ get_last (names tree) t)

    past : (p : Path) (m : ℕ) → k < m → is_child_in (names next) p m ≡ false
    past p m more = no_child_past (names next) p m (omega (arith, more, longer))

    ends : (p : Path) (m : ℕ) → k ≤ m → is_child_in (names tree) p m ≡ false
    ends p m from = no_child_past (names tree) p m (omega (arith, from, end))

    same_children : (p : Path) → path_eq (parent t) p ≡ false → (m : ℕ) → is_child_in (names next) p m ≡ is_child_in (names tree) p m
    same_children p other m =
        elim (cases_lt m k) [
          | inl less ↦ before p m less
          | inr from ↦ elim (cases_lt k m) [
            | inl more ↦ past p m more ∙ sym (ends p m from)
            | inr to ↦
                let at : m ≡ k = omega (arith, from, to) in
                ap (is_child_in (names next) p) at ∙ here p ∙ other ∙ sym (ends p m from)
          ]
        ]

    count : (p : Path) → live_children_of next p ≡ live_children_of tree p + cond (path_eq (parent t) p) 1 0
    count p = ap (count_by (λ u. path_eq (parent u) p && is_live (status_in next u))) same_names
        ∙ live_begun (names tree) (status_in tree) (status_in next) t Live begun fresh refl p

    more : (p : Path) (c : Children) → path_eq (parent t) p ≡ true → IsChildrenOf tree p c → IsChildrenOf next p (with_child k c)
    more p c e kept = record {
      live = sym (count p ∙ ap (λ b. live_children_of tree p + cond b 1 0) e ∙ ap (λ n. n + 1) (sym kept.live));
      first = first_more (is_child_in (names tree) p) (is_child_in (names next) p) k (before p) (here p ∙ e) (past p) (ends p) c.first kept.first;
      last = last_more (is_child_in (names tree) p) (is_child_in (names next) p) k (before p) (here p ∙ e) (past p) (ends p);
    }

    still : (p : Path) (c : Children) → path_eq (parent t) p ≡ false → IsChildrenOf tree p c → IsChildrenOf next p c
    still p c e kept = record {
      live = kept.live ∙ sym (let sum = count p ∙ ap (λ b. live_children_of tree p + cond b 1 0) e in omega (arith, sum));
      first = first_same (is_child_in (names tree) p) (is_child_in (names next) p) (same_children p e) c.first kept.first;
      last = last_same (is_child_in (names tree) p) (is_child_in (names next) p) (same_children p e) c.last kept.last;
    }

    -- ---- the new one and the old ones

    named : All IsName (names tree ++ t ∷ [])
    named = subst (All IsName) same_names after.named

    -- whoever has just begun has no child
    none_below : IsChildrenOf tree t no_children
    none_below = record {
      live = sym (no_live_child tree nodes tops linked t fresh some);
      first = nobody;
      last = nobody;
    }
      where
        some : path_eq [] t ≡ false
        some = some_label (names tree ++ t ∷ []) (length (names tree)) t named (get_last (names tree) t)

        nobody : (m : ℕ) → is_child_in (names tree) t m ≡ false
        nobody m = no_child tree nodes tops linked t fresh some m

    both : (n : ℕ) (u : Path) (x : Node) → slice_get (names next) n ≡ Some u → slice_get grown n ≡ Some x
        → ((slice_get (names tree) n ≡ Some u) × (slice_get nodes n ≡ Some x)) ⊎ ((n ≡ k) × (u ≡ t) × (x ≡ own))
    both n u x at there =
        elim (get_pushed (names tree) t n u (ap (λ ns. slice_get ns n) (sym same_names) ∙ at)) [
          | inl old ↦ elim (get_pushed nodes own n x there) [
            | inl is_kept ↦ inl (old, is_kept)
            | inr last ↦ let w = slice_get_within (names tree) n u old in absurd (omega (arith, w, last.0, linked.level, length-keys_of tree))
          ]
          | inr new ↦ elim (get_pushed nodes own n x there) [
            | inl is_kept ↦ let w = slice_get_within nodes n x is_kept in absurd (omega (arith, w, new.0, linked.level, length-keys_of tree))
            | inr last ↦ inr (new.0 ∙ sym end, new.1, last.1)
          ]
        ]

    own_place : IsParentAt (names next) k t o
    own_place = subst (λ ns. IsParentAt ns k t o) (sym same_names) (parent_front (names tree) (t ∷ []) k t o (subst (λ n. IsParentAt (names tree) n t o) (sym last_place) below_parent))

    parents : (n : ℕ) (u : Path) (x : Node) → slice_get (names next) n ≡ Some u → slice_get grown n ≡ Some x → IsParentAt (names next) n u x.parent
    parents n u x at there =
        elim (both n u x at there) [
          | inl w ↦ subst (λ ns. IsParentAt ns n u x.parent) (sym same_names) (parent_front (names tree) (t ∷ []) n u x.parent (linked.parents n u x w.0 w.1))
          | inr w ↦ rw (w.0, w.1, w.2) own_place
        ]

    children : (n : ℕ) (u : Path) (x : Node) → slice_get (names next) n ≡ Some u → slice_get grown n ≡ Some x → IsChildrenOf tree u x.children
    children n u x at there =
        elim (both n u x at there) [
          | inl w ↦ linked.children n u x w.0 w.1
          | inr w ↦ rw (w.1, w.2) none_below
        ]

    -- who is the parent has a child more
    with_more : (n : ℕ) (u : Path) (x : Node) → slice_get (names next) n ≡ Some u → slice_get grown n ≡ Some x → IsChildrenOf next u (cond (is_at o n) (with_child k kept) x.children)
    with_more n u x at there = by (is_at o n) refl
      where
        parent_is : is_at o n ≡ path_eq (parent t) u
        parent_is = place_is (names next) k t o after.named after.distinct own_place n u at

        by : (b : Bool) → is_at o n ≡ b → IsChildrenOf next u (cond b (with_child k kept) x.children)
        by true e = more u kept (sym parent_is ∙ e) (subst (λ (c : Children). IsChildrenOf tree u c) (sym (below_at grown tops o n x there e)) (children n u x at there))
        by false e = still u x.children (sym parent_is ∙ e) (children n u x at there)

    is_last : IsLast (is_child_in (names tree) (parent t)) kept.last
    is_last = parents_children.last

    last_is_child : (q : Option ℕ) (n : ℕ) → IsLast (is_child_in (names tree) (parent t)) q → is_child_in (names tree) (parent t) n ≡ false → is_at q n ≡ false
    last_is_child None n f e = refl
    last_is_child (Some l) n f e = by (is_at (Some l) n) refl
      where
        by : (b : Bool) → is_at (Some l) n ≡ b → b ≡ false
        by true g = absurd (true≢false (sym f.0 ∙ ap (is_child_in (names tree) (parent t)) (eqb-true l n g) ∙ e))
        by false g = refl

    next_old : (n : ℕ) (u : Path) (x : Node) → slice_get (names tree) n ≡ Some u → slice_get nodes n ≡ Some x → IsNext (is_child_in (names next) (parent u)) n (cond (is_at kept.last n) (Some k) x.next)
    next_old n u x at there = by (path_eq (parent t) (parent u)) refl
      where
        test : Path → ℕ → Bool
        test = is_child_in (names tree)

        own_child : (p : Path) → is_child_in (names tree) p n ≡ path_eq (parent u) p
        own_child p = ap (is_parent_of (Some p)) at

        by : (b : Bool) → path_eq (parent t) (parent u) ≡ b → IsNext (is_child_in (names next) (parent u)) n (cond (is_at kept.last n) (Some k) x.next)
        by true e =
            let same : parent t ≡ parent u = same_path (parent t) (parent u) e in
            next_more (is_child_in (names tree) (parent u)) (is_child_in (names next) (parent u)) k (before (parent u)) (here (parent u) ∙ e) (past (parent u)) (ends (parent u))
            n kept.last x.next (own_child (parent u) ∙ path_eq-from (parent u) (parent u) refl)
            (subst (λ (p : Path). IsLast (is_child_in (names tree) p) kept.last) same is_last) (linked.next n u x at there)
        by false e =
            let not_last : is_at kept.last n ≡ false = last_is_child kept.last n is_last (own_child (parent t) ∙ other (path_eq (parent u) (parent t)) refl) in
            subst (λ (b : Bool). IsNext (is_child_in (names next) (parent u)) n (cond b (Some k) x.next)) (sym not_last)
            (next_same (is_child_in (names tree) (parent u)) (is_child_in (names next) (parent u)) (same_children (parent u) e) n x.next (linked.next n u x at there))
          where
            other : (b : Bool) → path_eq (parent u) (parent t) ≡ b → b ≡ false
            other true f = absurd (true≢false (sym (path_eq-from (parent t) (parent u) (sym (same_path (parent u) (parent t) f))) ∙ e))
            other false f = refl

    next_own : IsNext (is_child_in (names next) (parent t)) k (cond (is_at kept.last k) (Some k) None)
    next_own =
        subst (λ (b : Bool). IsNext (is_child_in (names next) (parent t)) k (cond b (Some k) None))
        (sym (last_is_child kept.last k is_last (ends (parent t) k (omega arith)))) (past (parent t))

    with_next_one : (n : ℕ) (u : Path) (x : Node) → slice_get (names next) n ≡ Some u → slice_get grown n ≡ Some x → IsNext (is_child_in (names next) (parent u)) n (cond (is_at kept.last n) (Some k) x.next)
    with_next_one n u x at there =
        elim (both n u x at there) [
          | inl w ↦ next_old n u x w.0 w.1
          | inr w ↦ rw (w.0, w.1, w.2) next_own
        ]

    top_level : IsChildrenOf next [] (top_with tops o (with_child k kept))
    top_level = by o below_parent
      where
        by : (q : Option ℕ) → IsParentAt (names tree) (length tree) t q → IsChildrenOf next [] (top_with tops q (with_child k (below grown tops q)))
        by None root = more [] tops (path_eq-from (parent t) [] root) linked.top_level
        by (Some p) found = still [] tops (not_root (parent t) (some_label (names tree) p (parent t) is.named found.1)) linked.top_level
          where
            not_root : (u : Path) → path_eq [] u ≡ false → path_eq u [] ≡ false
            not_root [] e = absurd (true≢false e)
            not_root (l ∷ ls) e = refl

    pub linked_begun : (all : List Node) (all_tops : Children) → all ≡ followed (with_below grown o (with_child k kept)) kept.last k → all_tops ≡ top_with tops o (with_child k kept) → IsLinked next all all_tops
    linked_begun all all_tops same_all same_tops = record {
      level =
          let as_long : length all ≡ length grown = ap length same_all ∙ length_changed grown o kept.last (with_child k kept) k in
          let one_more : length next ≡ length (tree ++ (t, Live) ∷ []) = ap length pushed in
          omega (arith, as_long, one_more, length-append nodes (own ∷ []), linked.level, length-append tree ((t, Live) ∷ []));
      parents = λ n u y at there. let w = from n y there in rw w.2 (parents n u w.0 at w.1);
      next = λ n u y at there. let w = from n y there in rw w.2 (with_next_one n u w.0 at w.1);
      children = λ n u y at there. let w = from n y there in rw w.2 (with_more n u w.0 at w.1);
      top_level = subst (λ (c : Children). IsChildrenOf next [] c) (sym same_tops) top_level;
    }
      where
        from : (n : ℕ) (y : Node) → slice_get all n ≡ Some y
            → (x : Node) × (slice_get grown n ≡ Some x) × (y ≡ record { parent = x.parent; next = cond (is_at kept.last n) (Some k) x.next; children = cond (is_at o n) (with_child k kept) x.children })
        from n y there = changed grown o kept.last (with_child k kept) k n y (subst (λ (zs : List Node). slice_get zs n ≡ Some y) same_all there)
