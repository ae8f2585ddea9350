use Rattle.interleavings.proofs.Schedules.{goes_err_still}
use Rattle.interleavings.proofs.schedule.run_all.Goals as goal

pub returns-clause-err : goal.returns-clause-err
returns-clause-err g c =
    goes_err_still g.S.TopStore c.run_rounds.result c.args.turns.now c.run_list.new.turns c.run_rounds.new.turns c.in_ok-run_list.ensures.ok.goes c.run_rounds.ensures.err
