use Rattle.std.proofs.Common.{sym, ◌∙◌, arith}
use Rattle.interleavings.proofs.Stuck.{goes_past, goes_more, none_goes}
use Rattle.interleavings.proofs.turns.Turns.some_goes_on.Goals as goal

pub loop-session-smaller : goal.loop-session-smaller
loop-session-smaller g c = omega (arith, c.in-Some.ensures.some.0, c.in-Some.ensures.some.1)

pub loop-session-preserved : goal.loop-session-preserved
loop-session-preserved g c =
    let t = c.args.self.now in
    record {
      left = c.look_at-in-Some.ensures.left;
      none = λ u less. goes_more t.sessions t.core.history t.core.rows c.in-Some.session
          (goes_past t.sessions t.core.history t.core.rows c.loop-session.from c.in-Some.session c.loop-session.invariant.none c.in-Some.ensures.some.2)
          (sym c.look_at-in-Some.ensures.told ∙ c.if-look_at-2.false) u (omega (arith, less));
    }

pub returns-then-look_at-clause-told : goal.returns-then-look_at-clause-told
returns-then-look_at-clause-told g c = (c.self.inside.lead, sym c.look_at.ensures.told ∙ c.if-look_at.true)

pub returns-then-look_at-2-clause-told : goal.returns-then-look_at-2-clause-told
returns-then-look_at-2-clause-told g c = (c.in-Some.session, sym c.look_at-in-Some.ensures.told ∙ c.if-look_at-2.true)

pub returns-clause-told : goal.returns-clause-told
returns-clause-told g c =
    let t = c.args.self.now in
    none_goes t.sessions t.core.history t.core.rows
    (λ u less. goes_past t.sessions t.core.history t.core.rows c.loop-session.from _ c.loop-session.invariant.none c.in_default.ensures.none u less)
