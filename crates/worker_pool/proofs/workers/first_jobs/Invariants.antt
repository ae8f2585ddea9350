use Rattle.crossbeam_channel.specs.Claims.{IsSeatAt}
use Rattle.crossbeam_channel.specs.Ends.{sends_on}
use Rattle.worker_pool.proofs.workers.first_jobs.Given as goal

-- the pass is one of the channel
abbrev pub invariant-loop-session : goal.invariant-loop-session
invariant-loop-session g l = IsSeatAt (sends_on l.ready.sender) l.pass
