use Rattle.std.proofs.Common.{subst, sym}
use Rattle.interleavings.specs.Scheduled.{Goes}
use Rattle.interleavings.proofs.Exports.{goes_err, goes_partly_err, goes_same}
use Rattle.live_sessions.proofs.Handled.{attempted_ok}
use Rattle.live_sessions.proofs.live.attempt_all.Goals as goal

pub returns-in_err-step-clause-err : goal.returns-in_err-step-clause-err
returns-in_err-step-clause-err g c =
    goes_err g.S.TopStore c.from_residual.result c.args.turns.now c.step.new.self
    (subst (λ t. Goes g.S.TopStore c.args.turns.now t) (sym c.in_err-step.ensures.err) (goes_same g.S.TopStore c.args.turns.now))

pub returns-clause-ok : goal.returns-clause-ok
returns-clause-ok g c =
    attempted_ok g.S.TopStore c.args.session c.args.turns.now c.step.new.self c.settle.new.turns c.in_ok-step.field-0 c.settle.result c.in_ok-step.ensures.ok c.settle.ensures.ok

pub returns-clause-err : goal.returns-clause-err
returns-clause-err g c =
    goes_partly_err g.S.TopStore c.settle.result c.args.turns.now c.step.new.self c.settle.new.turns
    (record { sessions = c.in_ok-step.ensures.ok.sessions; on = c.in_ok-step.ensures.ok.on }) c.settle.ensures.err
