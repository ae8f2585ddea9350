use Rattle.std.proofs.Common.{◌≡◌, ◌∙◌, sym, ap, not, false, true, true≢false, [], ◌&&◌, ◌<◌, eqb, length, arith}
use Rattle.std.specs.Prelude.{nat_lt}
use Rattle.std.proofs.lemmas.Bool.{lt-ltb, ne_eqb}
use Rattle.txn_tree.specs.Asked.{live_children_of}
use Rattle.report_check.specs.Passing.{Final, at_part, may_end, none_waits}
use Rattle.report_judge.specs.declared.seen.Part.TheVariants as kept
use Rattle.report_judge.proofs.Stepping.{ends, kept_at, steps_if}
use Rattle.report_judge.proofs.seen.take_table.Goals as goal

pub returns-then-live_tops-eq0 : goal.returns-then-live_tops-eq0
returns-then-live_tops-eq0 c r seen middle =
    let s = c.args.seen.now in
    let none : live_children_of s.transactions.tree [] ≡ 0 = sym c.live_tops.ensures ∙ c.if-live_tops-eq0.true in
    steps_if (may_end r) c.none_waits.result (at_part Final r) _
    (ends r s c.none_waits.result seen.kept (ap (λ n. not (nat_lt 0 n) && none_waits r.history (length r.labels)) none ∙ sym (c.none_waits.ensures r.labels r.history seen.kept.sessions)))
    (λ _. record { part = Rattle.std.proofs.Common.refl; early = tt; kept = kept_at r s seen.kept kept.Final Final })

pub returns-else-live_tops-eq0 : goal.returns-else-live_tops-eq0
returns-else-live_tops-eq0 c r seen middle =
    let s = c.args.seen.now in
    let some : 0 < live_children_of s.transactions.tree [] = omega (arith, c.live_tops.ensures, c.if-live_tops-eq0.false) in
    let differ = ne_eqb c.live_tops.result 0 c.if-live_tops-eq0.false in
    steps_if (may_end r) (eqb c.live_tops.result 0) (at_part Final r) _
    (ends r s (eqb c.live_tops.result 0) seen.kept (ap (λ b. not b && none_waits r.history (length r.labels)) (lt-ltb 0 (live_children_of s.transactions.tree []) some) ∙ sym differ))
    (λ e. absurd (true≢false (sym e ∙ differ)))
