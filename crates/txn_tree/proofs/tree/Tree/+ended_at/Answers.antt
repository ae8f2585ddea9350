use Rattle.std.proofs.Common.{◌≡◌, ◌+◌, ◌-◌, ◌<◌, ℕ, Bool, List, Option, Some, None, length, false, true, sym, ap, subst, ◌∙◌, rules, arith}
use Rattle.txn_tree.specs.declared.node.Children.{Children}
use Rattle.txn_tree.specs.declared.node.Node.{Node}
use Rattle.txn_tree.specs.States.{States, IsTree, is_live, names}
use Rattle.txn_tree.specs.Linked.{IsLinked}
use Rattle.txn_tree.specs.Numbered.{ended_at, is_active_at, is_below_orphan, status_at}
use Rattle.txn_tree.specs.Siblings.{IsFirst, is_child_at}
use Rattle.txn_tree.proofs.Endings.{IsChild, all_ended, child_upright, first_is_child, fits, is_active, nearer, next_is_child, no_end, none_yet, one_more, remaining, so_far, within}
use Rattle.txn_tree.proofs.Siblings.{child_later, first_at}
use Rattle.txn_tree.proofs.tree.Tree.+ended_at.Goals as goal

-- the transaction itself is active
active : (tree : States) (n : ℕ) (b : Bool) → b ≡ is_live (status_at tree n) → b ≡ true → is_below_orphan tree n ≡ false → is_active_at tree n ≡ true
active tree n b told live upright = is_active tree n (sym told ∙ live) upright

-- the one that is looked at is a child
child : (tree : States) (n c : ℕ) (o : Option ℕ) → o ≡ Some c → IsChild tree n o → is_child_at tree n c ≡ true
child tree n c o is here = subst (λ (q : Option ℕ). IsChild tree n q) is here

module _ (inside now : States) (view_is : inside ≡ now) (nodes : List Node) (tops : Children) (is : IsTree inside) (linked : IsLinked inside nodes tops) (n : ℕ) (live : is_active_at now n ≡ true) where
  all : ended_at now n ≡ 1 + so_far now n None
  all = subst (λ (s : States). is_active_at s n ≡ true → ended_at s n ≡ 1 + so_far s n None) view_is (λ a. all_ended inside n nodes tops is linked a) live

  room : (c : ℕ) → is_child_at now n c ≡ true → (1 + so_far now n (Some c)) + ended_at now c < 4294967296
  room c here =
      subst (λ (s : States). is_active_at s n ≡ true → is_child_at s n c ≡ true → (1 + so_far s n (Some c)) + ended_at s c < 4294967296) view_is
      (λ a h. fits inside n nodes tops is linked a c h) live here

  later : (c : ℕ) → is_child_at now n c ≡ true → n < c
  later c here = subst (λ (s : States). is_child_at s n c ≡ true → n < c) view_is (λ h. child_later inside nodes tops is linked n c h) here

pub returns-then-not-is_live_at : goal.returns-then-not-is_live_at
returns-then-not-is_live_at t c =
    sym (no_end c.args.self.now c.args.txn c.is_live_at.ensures.upward (sym c.is_live_at.ensures.live ∙ c.if-not-is_live_at.true))

pub loop-child-init : goal.loop-child-init
loop-child-init t c =
    let first : IsFirst (is_child_at c.args.self.now c.args.txn) c.children_at-child.result.first =
    rw (sym c.self.view_is, c.children_at-child.ensures) (first_at _ _ _ c.self.invariant.0 c.self.invariant.1 c.args.txn) in
    let none = none_yet c.args.self.now c.args.txn c.children_at-child.result.first first in
    record {
      child = first_is_child c.args.self.now c.args.txn c.children_at-child.result.first first;
      counted = omega (arith, none);
    }

pub ended_at-ended-requires : goal.ended_at-ended-requires
ended_at-ended-requires t c =
    let here = child c.args.self.now c.args.txn c.in-Some.inferior c.loop-child.child c.in-Some.is c.loop-child.invariant.child in
    let is_live = active c.args.self.now c.args.txn c.is_live_at.result c.is_live_at.ensures.live c.if-not-is_live_at.false c.requires.upright in (
      (let past = later c.self.inside.register c.args.self.now c.self.view_is c.self.inside.nodes.items c.self.inside.tops c.self.invariant.0 c.self.invariant.1 c.args.txn is_live c.in-Some.inferior here in
          let less = within c.args.self.now c.args.txn c.in-Some.inferior here in
          let smaller : length (names c.args.self.now) - c.in-Some.inferior < length (names c.args.self.now) - c.args.txn = omega (arith, past, less) in
          search rules),
      child_upright c.args.self.now c.args.txn c.in-Some.inferior
          is_live here,
    )

pub overflow_add-ended : goal.overflow_add-ended
overflow_add-ended t c =
    let here = child c.args.self.now c.args.txn c.in-Some.inferior c.loop-child.child c.in-Some.is c.loop-child.invariant.child in
    let is_live = active c.args.self.now c.args.txn c.is_live_at.result c.is_live_at.ensures.live c.if-not-is_live_at.false c.requires.upright in
    let bound = room c.self.inside.register c.args.self.now c.self.view_is c.self.inside.nodes.items c.self.inside.tops c.self.invariant.0 c.self.invariant.1 c.args.txn is_live c.in-Some.inferior here in
    let before = c.loop-child.invariant.counted ∙ ap (λ (o : Option ℕ). 1 + so_far c.args.self.now c.args.txn o) c.in-Some.is in
    omega (arith, bound, before, c.ended_at-ended.ensures)

pub loop-child-smaller : goal.loop-child-smaller
loop-child-smaller t c =
    let here = child c.args.self.now c.args.txn c.in-Some.inferior c.loop-child.child c.in-Some.is c.loop-child.invariant.child in
    subst (λ (o : Option ℕ). remaining c.args.self.now c.next_sibling-child.result < remaining c.args.self.now o) (sym c.in-Some.is)
    (nearer c.args.self.now c.args.txn c.in-Some.inferior here c.next_sibling-child.result c.next_sibling-child.ensures
    (next_is_child c.args.self.now c.args.txn c.in-Some.inferior here c.next_sibling-child.result c.next_sibling-child.ensures))

pub loop-child-preserved : goal.loop-child-preserved
loop-child-preserved t c =
    let tree = c.args.self.now in
    let here = child c.args.self.now c.args.txn c.in-Some.inferior c.loop-child.child c.in-Some.is c.loop-child.invariant.child in
    record {
      child = next_is_child c.args.self.now c.args.txn c.in-Some.inferior here c.next_sibling-child.result c.next_sibling-child.ensures;
      counted =
          let more = one_more c.args.self.now c.args.txn c.in-Some.inferior here c.next_sibling-child.result c.next_sibling-child.ensures in
          let before = c.loop-child.invariant.counted ∙ ap (λ (o : Option ℕ). 1 + so_far c.args.self.now c.args.txn o) c.in-Some.is in
          omega (arith, more, before, c.ended_at-ended.ensures);
    }

pub returns : goal.returns
returns t c =
    let is_live = active c.args.self.now c.args.txn c.is_live_at.result c.is_live_at.ensures.live c.if-not-is_live_at.false c.requires.upright in
    let whole = all c.self.inside.register c.args.self.now c.self.view_is c.self.inside.nodes.items c.self.inside.tops c.self.invariant.0 c.self.invariant.1 c.args.txn is_live in
    c.loop-child.invariant.counted ∙ ap (λ (o : Option ℕ). 1 + so_far c.args.self.now c.args.txn o) c.in_default.is ∙ sym whole
