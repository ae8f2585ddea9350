use Rattle.std.proofs.Common.{◌≡◌, suc, ◌++◌, ◌∷◌, [], Some, List, refl, sym, ap, ◌∙◌, arith}
use Rattle.std.specs.Prelude.{slice_get}
use Rattle.std.proofs.Common.{length, drop}
use Rattle.txn_tree.specs.Linked.{update_at}
use Rattle.report_tables.specs.declared.chains.Access.{Access}
use Rattle.report_tables.specs.declared.chains.Chain.{Chain}
use Rattle.report_tables.specs.Chained.{chain_in, joined, led}
use Rattle.report_tables.proofs.Leading.{written}
use Rattle.report_tables.specs.Told.{places}
use Rattle.report_tables.proofs.Doing.{done_access}
use Rattle.report_tables.proofs.Trees.{active_in}
use Rattle.report_tables.proofs.transactions.access.Goals as goal

pub returns-in_default : goal.returns-in_default
returns-in_default c base known h q are line asks = sym (active_in h c.args.transactions.now.tree are.in_tree c.args.name.now) ∙ c.in_default.ensures.none

pub returns : goal.returns
returns c base known h q are line asks =
    let x = c.args.transactions.now in
    let t = c.args.name.now in
    let p = c.place_of.result in
    let next : p ≡ suc c.in-Some.txn = omega (arith, c.place_of.ensures) in
    let at : slice_get (places x.tree) p ≡ Some t = ap (slice_get (places x.tree)) next ∙ c.in-Some.ensures.number in (
      sym (active_in h x.tree are.in_tree t) ∙ c.in-Some.ensures.active,
      λ e does. done_access base known h x _ e are t q p c.len-place.result c.args.access c.active_number.ensures.tree at c.in-Some.ensures.active does line asks c.requires (omega (arith, c.len-place.ensures, x.accesses.ok.0)) refl
          (written c.append_at.new.accesses (drop (length c.append_at.new.accesses) c.push.new.self.items) c.push.new.self.len (omega (arith, ap (λ (z : List Access). length z) c.deref_mut.ensures.value, c.append_at.auto.accesses, c.push.new.self.ok.0))
          ∙ c.append_at.ensures.accesses
          ∙ ap (λ z. led z (chain_in (slice_get c.deref_mut-2.result.now p)).last c.one.result.first) (c.deref_mut.ensures.value ∙ c.in_ok-push.ensures.items)
          ∙ ap (λ z. led (x.accesses.items ++ c.args.access ∷ []) (chain_in (slice_get z p)).last c.one.result.first) c.deref_mut-2.ensures.value
          ∙ ap (λ (q : Chain). led (x.accesses.items ++ c.args.access ∷ []) (chain_in (slice_get x.chains.items p)).last q.first) c.one.ensures)
          (written c.append_at.new.chains (drop (length c.append_at.new.chains) x.chains.items) x.chains.len (omega (arith, ap (λ (z : List Chain). length z) c.deref_mut-2.ensures.value, c.append_at.auto.chains, x.chains.ok.0))
          ∙ c.append_at.ensures.chains
          ∙ ap (λ z. update_at z p (λ q. joined q c.one.result)) c.deref_mut-2.ensures.value
          ∙ ap (λ (d : Chain). update_at x.chains.items p (λ q. joined q d)) c.one.ensures),
    )
