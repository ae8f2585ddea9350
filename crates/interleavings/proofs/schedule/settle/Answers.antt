use Rattle.interleavings.proofs.Schedules.{settles_all, settles_err, settles_more, settles_none}
use Rattle.interleavings.proofs.Stuck.{some_moves}
use Rattle.interleavings.proofs.schedule.settle.Goals as goal

pub loop-turns-init : goal.loop-turns-init
loop-turns-init g c = settles_none g.S.TopStore c.args.turns.now

pub loop-turns-smaller : goal.loop-turns-smaller
loop-turns-smaller g c =
    let old = c.loop-turns.turns in
    let new = c.run_each.new.turns in
    let each = rw c.goes_on_still.ensures.same at c.in_ok-run_each.ensures.ok in
    let tells = rw c.loop-turns-test.true at c.goes_on_still.ensures.told in
    rw each.goes.sessions (some_moves old.sessions old.core.history old.core.rows new.core.history tells each.each)

pub loop-turns-preserved : goal.loop-turns-preserved
loop-turns-preserved g c =
    settles_more g.S.TopStore c.args.turns.now c.loop-turns.turns c.run_each.new.turns c.loop-turns.invariant
    (rw c.goes_on_still.ensures.same at c.in_ok-run_each.ensures.ok)

pub returns-clause-ok : goal.returns-clause-ok
returns-clause-ok g c =
    let tells = rw c.loop-turns-test.false at c.goes_on_still.ensures.told in
    rw c.goes_on_still.ensures.same (settles_all g.S.TopStore c.args.turns.now c.loop-turns.turns c.loop-turns.invariant tells)

pub returns-in_err-run_each-clause-err : goal.returns-in_err-run_each-clause-err
returns-in_err-run_each-clause-err g c =
    settles_err g.S.TopStore c.from_residual.result c.args.turns.now c.loop-turns.turns
    c.run_each.new.turns c.loop-turns.invariant (rw c.goes_on_still.ensures.same at c.in_err-run_each.ensures.err)
