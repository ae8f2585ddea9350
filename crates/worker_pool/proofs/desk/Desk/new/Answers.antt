use Rattle.worker_pool.proofs.Kept.{kept_first}
use Rattle.worker_pool.proofs.desk.Desk.new.Goals as goal

pub invariant_of-result : goal.invariant_of-result
invariant_of-result g c = kept_first g.S.TopStore g.J.Opening.first c.args.book c.requires
