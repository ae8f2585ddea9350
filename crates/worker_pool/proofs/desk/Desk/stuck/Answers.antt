use Rattle.worker_pool.proofs.Kept.{behind_try, if_unstuck}
use Rattle.worker_pool.proofs.desk.Desk.stuck.Goals as goal

pub invariant_of-self : goal.invariant_of-self
invariant_of-self g c =
    behind_try g.S.TopStore g.J.Opening.first c.stuck.new.self
    (if_unstuck g.S.TopStore g.J.Opening.first c.self.inside.book c.stuck.new.self c.stuck.result c.self.invariant.gone_on c.stuck.ensures.ok c.stuck.ensures.err)
