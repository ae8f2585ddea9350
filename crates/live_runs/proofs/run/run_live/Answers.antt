use Rattle.std.proofs.Common.{inl, inr, refl}
use Rattle.live_runs.proofs.Lived.{lived, unlived}
use Rattle.live_runs.proofs.run.run_live.Goals as goal

pub returns-in-Err-clause-err : goal.returns-in-Err-clause-err
returns-in-Err-clause-err g c =
    inr (inl (record { given = c.in-Err.left; is = refl; first = c.in_ok-live.live; opened = c.begin.new.out; begins = c.in_ok-live.ensures.ok; breaks = c.in-Err.ensures.err }))

pub returns-in-Ok-end-clause-ok : goal.returns-in-Ok-end-clause-ok
returns-in-Ok-end-clause-ok g c =
    lived _ g.S.TopStore _ _
    c.args.store c.args.input.now c.hear_all.new.input c.args.out.now c.begin.new.out c.hear_all.new.out c.end.new.out c.args.err.now c.hear_all.new.err
    c.in_ok-live.live c.in-Ok.live c.in_ok-live.ensures.ok c.in-Ok.ensures.ok c.in-Ok-end.left c.in-Ok-end.ensures.ok

pub returns-in-Err-end-clause-err : goal.returns-in-Err-end-clause-err
returns-in-Err-end-clause-err g c =
    unlived _ g.S.TopStore _ _
    c.args.store c.args.input.now c.hear_all.new.input c.args.out.now c.begin.new.out c.hear_all.new.out c.end.new.out c.args.err.now c.hear_all.new.err
    c.in_ok-live.live c.in-Ok.live c.in_ok-live.ensures.ok c.in-Ok.ensures.ok c.in-Err-end.fault c.in-Err-end.left c.in-Err-end.ensures.err
