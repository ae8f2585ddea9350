use Rattle.std.proofs.Common.{arith, refl}
use Rattle.live_runs.specs.declared.fault.LiveFault.TheVariants.{Read}
use Rattle.live_runs.specs.Hearing.{holds_nothing, moment}
use Rattle.live_runs.proofs.Lines.{breaks_at, breaks_off, hears_all, hears_more, hears_none}
use Rattle.live_runs.proofs.hearing.hear_all.Goals as goal

pub loop-line-init : goal.loop-line-init
loop-line-init g c =
    hears_none _ g.S.TopStore _ _
    c.args.input.now c.new-lines.result c.args.live c.args.out.now c.args.err.now c.new-lines.ensures.held c.new-lines.ensures.kept

pub returns-in-Err-clause-err : goal.returns-in-Err-clause-err
returns-in-Err-clause-err g c =
    let first = moment c.args.input.now holds_nothing c.args.live c.args.out.now c.args.err.now in
    let now = moment c.loop-line.input c.loop-line.lines c.loop-line.live c.loop-line.out c.loop-line.err in
    breaks_at _ g.S.TopStore _ _
    first now c.loop-line.line c.hear_next.new.input c.hear_next.new.out c.hear_next.new.err c.in-Err.fault.1 c.in-Err.fault.0 c.loop-line.invariant c.in-Err.ensures.untold
    c.in-Err.ensures.err

pub returns-then-not-more-clause-ok : goal.returns-then-not-more-clause-ok
returns-then-not-more-clause-ok g c =
    let first = moment c.args.input.now holds_nothing c.args.live c.args.out.now c.args.err.now in
    let now = moment c.loop-line.input c.loop-line.lines c.loop-line.live c.loop-line.out c.loop-line.err in
    hears_all _ g.S.TopStore _ _
    first now c.loop-line.line c.in-Ok.heard.1 c.hear_next.new.input c.hear_next.new.lines c.in-Ok.heard.0 c.hear_next.new.out c.hear_next.new.err
    c.loop-line.invariant c.if-not-more.true c.in-Ok.ensures.ok

pub loop-line-preserved : goal.loop-line-preserved
loop-line-preserved g c =
    let first = moment c.args.input.now holds_nothing c.args.live c.args.out.now c.args.err.now in
    let now = moment c.loop-line.input c.loop-line.lines c.loop-line.live c.loop-line.out c.loop-line.err in
    let next = moment c.hear_next.new.input c.hear_next.new.lines c.in-Ok.heard.0 c.hear_next.new.out c.hear_next.new.err in
    hears_more _ g.S.TopStore _ _
    first now next c.loop-line.line c.in-Ok.heard.1 c.loop-line.invariant c.if-not-more.false c.in-Ok.ensures.ok

pub returns-clause-err : goal.returns-clause-err
returns-clause-err g c =
    let first = moment c.args.input.now holds_nothing c.args.live c.args.out.now c.args.err.now in
    let now = moment c.loop-line.input c.loop-line.lines c.loop-line.live c.loop-line.out c.loop-line.err in
    breaks_off _ g.S.TopStore _ _
    first now c.loop-line.line c.give_up.result Read c.loop-line.invariant (omega (arith, c.loop-line-test.false, c.loop-line.auto.line-end)) refl c.give_up.ensures
