use Rattle.std.proofs.Common.{subst, sym}
use Rattle.interleavings.specs.Runs.{AllThere, HasRunCause}
use Rattle.interleavings.proofs.Closed.{broken_off, is_run}
use Rattle.interleavings.proofs.run.run_schedule.Goals as goal

pub returns-in-Ok-run_opened-clause-ok : goal.returns-in-Ok-run_opened-clause-ok
returns-in-Ok-run_opened-clause-ok g c =
    let there = subst (λ count. AllThere count c.args.schedule.now) c.count_of.ensures c.in_default.ensures in
    let out = c.in-Ok-run_opened.ensures.ok in
    is_run g.S.TopStore c.args.sessions.now c.args.schedule.now c.args.store c.in-Ok-run_opened.done.1 c.in-Ok.turns out.last c.in-Ok-run_opened.done.0 there c.in-Ok.ensures.ok
    out.whole out.closed

pub returns-in-Err-run_opened-clause-err : goal.returns-in-Err-run_opened-clause-err
returns-in-Err-run_opened-clause-err g c =
    let there = subst (λ count. AllThere count c.args.schedule.now) c.count_of.ensures c.in_default.ensures in
    subst (HasRunCause g.S.TopStore c.args.sessions.now c.args.schedule.now c.args.store) (sym c.let_go.ensures)
    (there, broken_off g.S.TopStore c.args.sessions.now c.args.store c.in-Ok.turns c.in-Err-run_opened.left c.in-Ok.ensures.ok c.in-Err-run_opened.ensures.err)
