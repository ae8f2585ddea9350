use Rattle.std.proofs.lemmas.Result.{IfOk-weaker}
use Rattle.interleavings.specs.Scheduled.{RunsOut}
use Rattle.interleavings.specs.Turning.{IsClosed}
use Rattle.interleavings.proofs.Closed.{closed_off}
use Rattle.interleavings.proofs.run.run_opened.Goals as goal

pub returns-in-Ok-clause-ok : goal.returns-in-Ok-clause-ok
returns-in-Ok-clause-ok g c =
    IfOk-weaker c.close.result (λ run. IsClosed g.S.TopStore c.run_all.new.turns run.0 run.1) (λ run. RunsOut g.S.TopStore c.args.schedule.now c.args.turns run.0 run.1)
    (λ run closed. record { last = c.run_all.new.turns; whole = c.in-Ok.ensures.ok; closed = closed }) c.close.ensures.ok

pub returns-in-Ok-clause-err : goal.returns-in-Ok-clause-err
returns-in-Ok-clause-err g c = closed_off g.S.TopStore c.args.schedule.now c.args.turns c.run_all.new.turns c.close.result c.in-Ok.ensures.ok c.close.ensures.err
