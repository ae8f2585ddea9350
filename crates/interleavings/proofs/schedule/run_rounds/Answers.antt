use Rattle.txn_history.proofs.Exports.{round_adds, clash}
use Rattle.interleavings.proofs.Schedules.{goes_err, goes_still, rounds_all, rounds_more, rounds_none}
use Rattle.interleavings.proofs.schedule.run_rounds.Goals as goal

pub loop-turns-init : goal.loop-turns-init
loop-turns-init g c = rounds_none g.S.TopStore c.args.turns.now

pub loop-turns-smaller : goal.loop-turns-smaller
loop-turns-smaller g c =
    let old = c.loop-turns.turns in
    let new = c.run_round.new.turns in
    let round = c.in_ok-run_round.ensures.ok in
    rw round.goes.sessions
    (round_adds old.core.rows old.sessions old.core.history new.core.history (λ all. clash (c.finished.ensures.1 all) c.loop-turns-test.true) round.round)

pub loop-turns-preserved : goal.loop-turns-preserved
loop-turns-preserved g c =
    rounds_more g.S.TopStore c.args.turns.now c.loop-turns.turns c.run_round.new.turns c.loop-turns.invariant
    (λ all. clash (c.finished.ensures.1 all) c.loop-turns-test.true) c.in_ok-run_round.ensures.ok

pub returns-clause-ok : goal.returns-clause-ok
returns-clause-ok g c = rounds_all g.S.TopStore c.args.turns.now c.loop-turns.turns c.loop-turns.invariant (c.finished.ensures.0 c.loop-turns-test.false)

pub returns-in_err-run_round-clause-err : goal.returns-in_err-run_round-clause-err
returns-in_err-run_round-clause-err g c =
    goes_err g.S.TopStore c.from_residual.result c.args.turns.now c.run_round.new.turns
    (goes_still g.S.TopStore c.args.turns.now c.loop-turns.turns c.run_round.new.turns c.loop-turns.invariant.goes c.in_err-run_round.ensures.err)
