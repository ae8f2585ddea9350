use Rattle.std.proofs.Common.{◌≡◌, suc, ◌+◌, length, sym, ap, subst, arith}
use Rattle.interleavings.specs.Scheduled.{RunsEach, RunsSome}
use Rattle.interleavings.proofs.Schedules.{each_more, each_none, each_past, some_err}
use Rattle.interleavings.proofs.schedule.run_each.Goals as goal

pub loop-session-init : goal.loop-session-init
loop-session-init g c = record { each = each_none g.S.TopStore c.args.turns.now; within = omega arith }

pub loop-session-smaller : goal.loop-session-smaller
loop-session-smaller g c =
    let old = c.args.turns.now in
    let mid = c.loop-session.turns in
    let same : length mid.sessions ≡ length old.sessions = ap length c.loop-session.invariant.each.goes.sessions in
    omega (arith, same, c.in-Some.ensures.some.0, c.in-Some.ensures.some.1)

pub loop-session-preserved : goal.loop-session-preserved
loop-session-preserved g c =
    let old = c.args.turns.now in
    let mid = c.loop-session.turns in
    let n = c.in-Some.session in
    let some = c.in-Some.ensures.some in
    let same : length mid.sessions ≡ length old.sessions = ap length c.loop-session.invariant.each.goes.sessions in
    let next : suc n ≡ n + 1 = omega arith in
    record {
      each = subst (λ m. RunsEach g.S.TopStore m old c.step.new.self) next
          (each_more g.S.TopStore n c.in_ok-step.field-0 old mid c.step.new.self
          (each_past g.S.TopStore c.loop-session.from n old mid c.loop-session.invariant.each some.2 some.0) c.in_ok-step.ensures.ok);
      within = omega (arith, same, some.1);
    }

pub returns-clause-ok : goal.returns-clause-ok
returns-clause-ok g c =
    let old = c.args.turns.now in
    let mid = c.loop-session.turns in
    let same : length mid.sessions ≡ length old.sessions = ap length c.loop-session.invariant.each.goes.sessions in
    let none = c.in_default.ensures.none in
    each_past g.S.TopStore c.loop-session.from (length old.sessions) old mid c.loop-session.invariant.each
    (λ u from less. none u from (omega (arith, same, less))) c.loop-session.invariant.within

pub returns-in_err-step-clause-err : goal.returns-in_err-step-clause-err
returns-in_err-step-clause-err g c =
    let old = c.args.turns.now in
    let mid = c.loop-session.turns in
    let n = c.in-Some.session in
    let some = c.in-Some.ensures.some in
    let same : length mid.sessions ≡ length old.sessions = ap length c.loop-session.invariant.each.goes.sessions in
    some_err g.S.TopStore c.from_residual.result old c.step.new.self
    (subst (λ t. RunsSome g.S.TopStore old t) (sym c.in_err-step.ensures.err)
    (record {
      count = n;
      few = omega (arith, same, some.1);
      runs = each_past g.S.TopStore c.loop-session.from n old mid c.loop-session.invariant.each some.2 some.0;
    }))
