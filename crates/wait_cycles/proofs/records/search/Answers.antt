use Rattle.std.proofs.Common.{ℕ, ap, inl, inr, refl, sym, arith, true≢false, ◌∙◌}
use Rattle.std.proofs.lemmas.Bool.{eqb-true, eq-eqb}
use Rattle.wait_cycles.specs.declared.records.Record.{Record}
use Rattle.slab.proofs.SlabLemmas.{Contains-cons, Contains-cons_cases, Contains-entries}
use Rattle.wait_cycles.proofs.records.search.Goals as goal

pub loop-record-init : goal.loop-record-init
loop-record-init c =
    let left = c.into_iter-record-iterator.ensures.into_iter_gives ∙ c.iter-record-items.ensures.rest in (
      tt,
      tt,
      λ k r at same. rw left ((Contains-entries c.args.slab.now k r).1 at),
      λ k r there. (Contains-entries c.args.slab.now k r).0 (rw left at there),
    )

pub loop-record-preserved : goal.loop-record-preserved
loop-record-preserved c =
    let at = c.in-Some.ensures.steps in (
      tt,
      tt,
      λ k r found same. elim (Contains-cons_cases _ _ _ (rw at at (c.loop-record.invariant.2 k r found same))) [
        | inl here ↦ absurd (true≢false (sym (eq-eqb c.in-Some.record.now.wait.txn c.args.txn (ap (λ (e : ℕ × Record). e.1.wait.txn) here ∙ same)) ∙ sym c.eq.ensures ∙ c.if-eq.false))
        | inr rest ↦ rest
      ],
      λ k r there. c.loop-record.invariant.3 k r (rw at (Contains-cons _ _ _ there)),
    )

pub returns-then-eq-clause-some : goal.returns-then-eq-clause-some
returns-then-eq-clause-some c =
    let at = c.in-Some.ensures.steps in
    (c.in-Some.field-0-0, c.loop-record.invariant.3 c.in-Some.field-0-0 c.in-Some.record.now (rw at (0, omega arith, refl)), eqb-true c.in-Some.record.now.wait.txn c.args.txn (sym c.eq.ensures ∙ c.if-eq.true))
