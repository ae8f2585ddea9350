use Rattle.std.proofs.Common.{◌≡◌, ◌++◌, ◌∷◌, [], ℕ, true, nat_eq, sym, subst, ◌∙◌, arith, rules}
use Rattle.std.proofs.lemmas.Bool.{leb-false}
use Rattle.std.proofs.lemmas.List.{length-append}
use Rattle.std.proofs.lemmas.List.Sorted.{IsNonDecreasingBy-from_sort_by_key, list_any-IsPermutation}
use Rattle.std.proofs.lemmas.Option.{slice_get_within}
use Rattle.wait_cycles.specs.Cycles.{is_member}
use Rattle.wait_cycles.proofs.Found.{pair_of}
use Rattle.wait_cycles.proofs.Lists.{item_at, member_push, pushed_member}
use Rattle.wait_cycles.proofs.Sorted.{listed_more, rising_from}
use Rattle.wait_cycles.proofs.order.list_starts.Goals as goal
use Rattle.wait_cycles.proofs.order.list_starts.Goals.{then-leads_up, else-leads_up}

pub loop-pair-preserved : goal.loop-pair-preserved
loop-pair-preserved c =
    let i = c.loop-pair.invariant in
    let pairs = c.args.pairs.now in
    let n = c.loop-pair.pair-index in
    let p = c.pair-item.result in
    let old = c.loop-pair.starts.items in
    let at = item_at pairs n p c.loop-pair-test.true c.pair-item.is in
    elim c.if-leads_up.branch [
      | then-leads_up w ↦
          let long = length-append old (p.1 ∷ []) in
          rw (w.starts-is, w.push_reserved.ensures.items) (
            omega (arith, i.0, long),
            listed_more pairs n p old (old ++ p.1 ∷ []) at (λ a m. member_push a p.1 old m) (λ up. pushed_member p.1 old) i.1,
            w.push_reserved.ensures.capacity ∙ i.2,
          )
      | else-leads_up w ↦
          let off = leb-false p.0 p.1 (sym c.leads_up.ensures ∙ w.if-leads_up.false) in
          rw w.starts-is (omega (arith, i.0), listed_more pairs n p old old at (λ a m. m) (λ up. absurd (omega (arith, up, off))) i.1, i.2)
    ]

pub returns-clause-all : goal.returns-clause-all
returns-clause-all c = λ b awaited.
    let f = pair_of c.args.pairs.now awaited.0 b awaited.1 in
    let within = slice_get_within c.args.pairs.now f.0 f.1 f.2 in
    let listed = c.loop-pair.invariant.1 f.0 f.1 (omega (arith, within, c.loop-pair-test.false)) f.2 (omega (arith, awaited.2, f.3, f.4)) in
    sym (list_any-IsPermutation (nat_eq b) c.loop-pair.starts.items c.sort_unstable_by_key.new.self.items c.sort_unstable_by_key.ensures.permutation)
    ∙ subst (λ (x : ℕ). is_member x c.loop-pair.starts.items ≡ true) f.4 listed

pub returns-clause-rising : goal.returns-clause-rising
returns-clause-rising c =
    rising_from c.sort_unstable_by_key.new.self.items (IsNonDecreasingBy-from_sort_by_key (λ x. x) _ c.sort_unstable_by_key.ensures.sorted (λ a r q k. search rules))
