use Rattle.std.proofs.Common.{◌≡◌, ◌∙◌, false, true, sym, ap, subst}
use Rattle.std.proofs.lemmas.List.{take_at}
use Rattle.txn_tree.specs.States.{States, is_aborted, names}
use Rattle.txn_tree.specs.Numbered.{is_active_at, live_children_at, live_children_named}
use Rattle.txn_tree.proofs.Ended.{may_go_down, ended, parent_within}
use Rattle.txn_tree.proofs.Inactive.{active_name, active_within}
use Rattle.txn_tree.proofs.Links.{some_label}
use Rattle.txn_tree.proofs.Nodes.{length_kept}
use Rattle.txn_tree.proofs.Orphans.{upward_ended}
use Rattle.txn_tree.proofs.tree.Tree.end.Goals as goal

pub set_at-requires-clause-begun : goal.set_at-requires-clause-begun
set_at-requires-clause-begun c = active_within _ c.args.txn (subst (λ (s : States). is_active_at s c.args.txn ≡ true) (sym c.self.view_is) c.requires.active)

pub end_child-requires-clause-within : goal.end_child-requires-clause-within
end_child-requires-clause-within c =
    let tree = c.self.inside.register in
    let own = active_name tree c.args.txn (subst (λ (s : States). is_active_at s c.args.txn ≡ true) (sym c.self.view_is) c.requires.active) in
    rw c.deref_mut.ensures.value
    (parent_within tree c.self.inside.nodes.items c.self.inside.tops c.self.invariant.0 c.self.invariant.1 c.args.txn c.place.result own.0 c.index.result.now
    own.1 c.index.ensures c.place.ensures own.2 c.set_at.new.self c.args.status c.set_at.ensures.names c.requires.ended (c.set_at.ensures.status own.0 own.1))

pub end_child-requires-clause-some : goal.end_child-requires-clause-some
end_child-requires-clause-some c =
    let tree = c.self.inside.register in
    let own = active_name tree c.args.txn (subst (λ (s : States). is_active_at s c.args.txn ≡ true) (sym c.self.view_is) c.requires.active) in
    rw c.deref_mut.ensures.value
    (may_go_down tree c.self.inside.nodes.items c.self.inside.tops c.self.invariant.0 c.self.invariant.1 c.args.txn c.place.result own.0 c.index.result.now
    own.1 c.index.ensures c.place.ensures own.2 c.set_at.new.self c.args.status c.set_at.ensures.names c.requires.ended (c.set_at.ensures.status own.0 own.1))

pub invariant_of-self : goal.invariant_of-self
invariant_of-self c =
    let tree = c.self.inside.register in
    let own = active_name tree c.args.txn (subst (λ (s : States). is_active_at s c.args.txn ≡ true) (sym c.self.view_is) c.requires.active) in
    let lone = subst (λ (s : States). is_aborted c.args.status ≡ false → live_children_at s c.args.txn ≡ 0) (sym c.self.view_is) c.requires.lone in
    let ends = c.set_at.ensures.status own.0 own.1 in
    let told = c.end_child.ensures in
    let long = length_kept c.end_child.new.nodes _ _ _ c.self.inside.nodes.len told.nodes c.deref_mut.ensures.len in (
      c.is_tree.ensures,
      rw (take_at c.end_child.new.nodes _ c.self.inside.nodes.len long)
          (ended tree c.self.inside.nodes.items c.self.inside.tops c.self.invariant.0 c.self.invariant.1 c.args.txn c.place.result own.0 c.index.result.now
          own.1 c.index.ensures c.place.ensures own.2 c.set_at.new.self c.args.status c.set_at.ensures.names c.requires.ended ends
          c.end_child.new.nodes c.end_child.new.tops (rw (sym c.deref_mut.ensures.value) told.nodes) (rw (sym c.deref_mut.ensures.value) told.tops)),
      upward_ended tree c.set_at.new.self own.0 c.args.status ends own.2 c.requires.ended
          (λ still. ap (live_children_named tree) (sym own.1) ∙ lone still)
          (some_label (names tree) c.args.txn own.0 c.self.invariant.0.named own.1) c.self.invariant.2,
    )
