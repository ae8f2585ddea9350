use Rattle.interleavings.proofs.Schedules.{round_of}
use Rattle.interleavings.proofs.schedule.run_round.Goals as goal

pub returns-clause-ok : goal.returns-clause-ok
returns-clause-ok g c =
    round_of g.S.TopStore c.args.turns.now c.run_each.new.turns c.stuck.new.self c.in_ok-stuck.field-0 c.in_ok-run_each.ensures.ok c.in_ok-stuck.ensures.ok
