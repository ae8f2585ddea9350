use Rattle.std.proofs.Common.{◌≡◌, ◌∙◌, ◌∷◌, ◌++◌, [], List, None, length, length-append, take, sym, ap, subst}
use Rattle.std.proofs.lemmas.List.{take_at}
use Rattle.txn_tree.specs.declared.node.Node.{Node}
use Rattle.txn_tree.specs.States.{States, names}
use Rattle.txn_tree.specs.Causes.{cause_at_begin}
use Rattle.txn_tree.specs.Linked.{IsParentAt, begun_node, below, followed, top_with, with_below, with_child}
use Rattle.txn_tree.proofs.Begun.{last_within, linked_begun, may_go_up}
use Rattle.txn_tree.proofs.Links.{on_ok, on_err}
use Rattle.txn_tree.proofs.Nodes.{length_changed}
use Rattle.txn_tree.proofs.Orphans.{begins_below_active, upward_begun}
use Rattle.txn_tree.proofs.Refusals.{absent_to_begin, new_to_begin}
use Rattle.txn_tree.proofs.Under.{nowhere}
use Rattle.txn_tree.proofs.tree.Tree.begin.Goals as goal

pub invariant_of-self-then-is_err-2 : goal.invariant_of-self-then-is_err-2
invariant_of-self-then-is_err-2 c =
    let items = c.self.inside.nodes.items in
    let same = on_err c.add.result _ (sym c.is_err-2.ensures.value ∙ c.if-is_err-2.true) c.add.ensures.err in
    let grown = on_ok c.add_node.result _ (sym c.is_err.ensures.value ∙ c.if-is_err.false) c.add_node.ensures.ok in
    let back : c.truncate.new.self.items ≡ items = c.truncate.ensures.items ∙ ap (take c.len-place.result) grown
    ∙ take_at items _ c.len-place.result (c.self.invariant.1.level ∙ sym c.len-place.ensures.len) in
    rw (same, back) c.self.invariant

pub append_child-requires-clause-last : goal.append_child-requires-clause-last
append_child-requires-clause-last c =
    let below_parent = subst (λ (s : States). IsParentAt (names s) (length s) c.args.name.now c.in-Ok.parent) (sym c.self.view_is) c.in-Ok.ensures.number in
    let nodes = c.self.inside.nodes.items in
    let o = c.in-Ok.parent in
    let grown = on_ok c.add_node.result _ (sym c.is_err.ensures.value ∙ c.if-is_err.false) c.add_node.ensures.ok in
    rw (c.deref_mut.ensures.value, grown)
    (last_within c.self.inside.register nodes c.self.inside.tops c.self.invariant.0 c.self.invariant.1 c.args.name.now o c.len-place.result c.len-place.ensures.len
    below_parent (length (nodes ++ begun_node o ∷ [])) (sym (length-append nodes (begun_node o ∷ []))))

pub append_child-requires-clause-fits : goal.append_child-requires-clause-fits
append_child-requires-clause-fits c =
    let below_parent = subst (λ (s : States). IsParentAt (names s) (length s) c.args.name.now c.in-Ok.parent) (sym c.self.view_is) c.in-Ok.ensures.number in
    let grown = on_ok c.add_node.result _ (sym c.is_err.ensures.value ∙ c.if-is_err.false) c.add_node.ensures.ok in
    rw (c.deref_mut.ensures.value, grown)
    (may_go_up c.self.inside.register c.self.inside.nodes.items c.self.inside.tops c.self.invariant.0 c.self.invariant.1 c.args.name.now
    c.in-Ok.parent c.len-place.result c.len-place.ensures.len below_parent)

pub invariant_of-self-2 : goal.invariant_of-self-2
invariant_of-self-2 c =
    let below_parent = subst (λ (s : States). IsParentAt (names s) (length s) c.args.name.now c.in-Ok.parent) (sym c.self.view_is) c.in-Ok.ensures.number in
    let begins = subst (λ (s : States). cause_at_begin s c.args.name.now ≡ None) (sym c.self.view_is) (sym c.in-Ok.ensures.refused) in
    let tree = c.self.inside.register in
    let t = c.args.name.now in
    let tops = c.self.inside.tops in
    let o = c.in-Ok.parent in
    let k = c.len-place.result in
    let told = c.append_child.ensures in
    let grown = on_ok c.add_node.result _ (sym c.is_err.ensures.value ∙ c.if-is_err.false) c.add_node.ensures.ok in
    let nodes : List Node = c.self.inside.nodes.items ++ begun_node o ∷ [] in
    let same = c.deref_mut.ensures.value ∙ grown in
    let added = sym c.is_err-2.ensures.value ∙ c.if-is_err-2.false in
    let child = c.new.ensures in
    let changed : c.append_child.new.nodes ≡ followed (with_below nodes o (with_child k (below nodes tops o))) (below nodes tops o).last k =
    told.nodes ∙ ap (λ (ns : List Node). followed (with_below ns o (with_child c.new.result (below ns tops o))) (below ns tops o).last c.new.result) same
    ∙ ap (λ n. followed (with_below nodes o (with_child n (below nodes tops o))) (below nodes tops o).last n) child in
    let changed_tops : c.append_child.new.tops ≡ top_with tops o (with_child k (below nodes tops o)) =
    told.tops ∙ ap (λ (ns : List Node). top_with tops o (with_child c.new.result (below ns tops o))) same
    ∙ ap (λ n. top_with tops o (with_child n (below nodes tops o))) child in
    let long : length c.append_child.new.nodes ≡ c.add_node.new.nodes.len =
    ap length told.nodes ∙ length_changed c.deref_mut.result.now o _ _ _ ∙ c.deref_mut.ensures.len in (
      c.is_tree.ensures,
      rw (take_at c.append_child.new.nodes _ c.add_node.new.nodes.len long)
          (linked_begun tree c.self.inside.nodes.items tops c.self.invariant.0 c.self.invariant.1 t o k c.len-place.ensures.len below_parent
          c.parent_to_begin.ensures.name
          (nowhere tree t (new_to_begin tree t begins c.self.invariant.0 c.parent_to_begin.ensures.name))
          c.add.new.self (on_ok c.add.result _ added c.add.ensures.last) c.is_tree.ensures (on_ok c.add.result _ added c.add.ensures.live)
          c.append_child.new.nodes c.append_child.new.tops changed changed_tops),
      upward_begun tree c.add.new.self t (on_ok c.add.result _ added c.add.ensures.live) (absent_to_begin tree t begins) c.self.invariant.2
          (begins_below_active tree t begins),
    )
