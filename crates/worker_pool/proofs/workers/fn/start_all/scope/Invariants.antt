use Rattle.crossbeam_channel.specs.Claims.{IsSeatAt}
use Rattle.crossbeam_channel.specs.Ends.{sends_on}
use Rattle.worker_pool.proofs.workers.fn.start_all.scope.Given as goal

-- the passes are ones of the channels
abbrev pub invariant-loop : goal.invariant-loop
invariant-loop g l = IsSeatAt (sends_on l.ready.now.sender) l.to_ready × IsSeatAt (sends_on l.parked.now.sender) l.to_parked
