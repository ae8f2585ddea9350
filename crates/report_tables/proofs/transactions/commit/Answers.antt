use Rattle.serial_spec.specs.History.{Name}
use Rattle.txn_tree.specs.States.{States, names}
use Rattle.std.proofs.Common.{◌≡◌, ℕ, suc, Some, List, Bool, true, false, not, ◌&&◌, refl, sym, ap, ◌∙◌, arith}
use Rattle.std.specs.Prelude.{slice_get, nat_lt}
use Rattle.std.proofs.lemmas.Bool.{ltb-false, and_from}
use Rattle.txn_tree.specs.Asked.{live_children_of}
use Rattle.txn_tree.specs.Numbered.{live_children_at, live_children_named}
use Rattle.serial_spec.specs.Allowed.{has_live_child}
use Rattle.std.proofs.Common.{length, drop}
use Rattle.txn_tree.specs.Linked.{update_at}
use Rattle.report_tables.specs.declared.chains.Access.{Access}
use Rattle.report_tables.specs.declared.chains.Chain.{Chain}
use Rattle.report_tables.specs.Chained.{chain_in, joined, led}
use Rattle.report_tables.proofs.Leading.{written}
use Rattle.report_tables.specs.Told.{places}
use Rattle.report_tables.proofs.Doing.{children_are, done_commit}
use Rattle.report_tables.proofs.Trees.{active_in}
use Rattle.report_tables.proofs.transactions.commit.Goals as goal

pub returns-in_default : goal.returns-in_default
returns-in_default c base known h are = ap (λ b. b && not (has_live_child h c.args.name.now)) (sym (active_in h c.args.transactions.now.tree are.in_tree c.args.name.now) ∙ c.in_default.ensures.none)

and_not : (a b : Bool) → b ≡ true → (a && not b) ≡ false
and_not true true e = refl
and_not true false e = sym e
and_not false b e = refl

-- the tree tells whether a child is live
told : (tree : States) (n : ℕ) (t : Name) (b : Bool) → slice_get (names tree) n ≡ Some t → b ≡ nat_lt 0 (live_children_at tree n) → nat_lt 0 (live_children_of tree t) ≡ b
told tree n t b at is = sym (is ∙ ap (λ o. nat_lt 0 (live_children_named tree o)) at)

pub returns-then-has_live_child_at : goal.returns-then-has_live_child_at
returns-then-has_live_child_at c base known h are =
    let x = c.args.transactions.now in
    let t = c.args.name.now in
    and_not _ _ (children_are h x.tree are.in_tree t ∙ told x.tree c.in-Some.txn t c.has_live_child_at.result c.in-Some.ensures.number c.has_live_child_at.ensures ∙ c.if-has_live_child_at.true)

pub returns : goal.returns
returns c base known h are =
    let x = c.args.transactions.now in
    let t = c.args.name.now in
    let k0 = c.place_of.result in
    let p = c.place_above-above.result in
    let next : k0 ≡ suc c.in-Some.txn = omega (arith, c.place_of.ensures) in
    let at0 : slice_get (places x.tree) k0 ≡ Some t = ap (slice_get (places x.tree)) next ∙ c.in-Some.ensures.number in
    let childless = told x.tree c.in-Some.txn t c.has_live_child_at.result c.in-Some.ensures.number c.has_live_child_at.ensures ∙ c.if-has_live_child_at.false in
    let own : c.chain_at-own.result ≡ chain_in (slice_get x.chains.items k0) = c.chain_at-own.ensures ∙ ap (λ z. chain_in (slice_get z k0)) c.deref.ensures.value in
    let none : live_children_of x.tree t ≡ 0 = omega (arith, ltb-false 0 (live_children_of x.tree t) childless) in (
      and_from _ _ (sym (active_in h x.tree are.in_tree t) ∙ c.in-Some.ensures.active) (ap not (children_are h x.tree are.in_tree t ∙ childless)),
      λ e does. done_commit base known h x _ e are t k0 p c.active_number.ensures.name c.active_number.ensures.tree at0 (c.place_above-above.ensures.place t c.in-Some.ensures.number)
          c.in-Some.ensures.active none does c.commit_at.ensures.names (c.commit_at.ensures.committed t c.in-Some.ensures.number)
          (written c.append_at.new.accesses (drop (length c.append_at.new.accesses) x.accesses.items) x.accesses.len (omega (arith, ap (λ (z : List Access). length z) c.deref_mut.ensures.value, c.append_at.auto.accesses, x.accesses.ok.0))
          ∙ c.append_at.ensures.accesses
          ∙ ap (λ z. led z (chain_in (slice_get c.deref_mut-2.result.now p)).last c.chain_at-own.result.first) c.deref_mut.ensures.value
          ∙ ap (λ z. led x.accesses.items (chain_in (slice_get z p)).last c.chain_at-own.result.first) c.deref_mut-2.ensures.value
          ∙ ap (λ (q : Chain). led x.accesses.items (chain_in (slice_get x.chains.items p)).last q.first) own)
          (written c.append_at.new.chains (drop (length c.append_at.new.chains) x.chains.items) x.chains.len (omega (arith, ap (λ (z : List Chain). length z) c.deref_mut-2.ensures.value, c.append_at.auto.chains, x.chains.ok.0))
          ∙ c.append_at.ensures.chains
          ∙ ap (λ z. update_at z p (λ q. joined q c.chain_at-own.result)) c.deref_mut-2.ensures.value
          ∙ ap (λ (d : Chain). update_at x.chains.items p (λ q. joined q d)) own),
    )
