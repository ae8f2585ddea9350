use Rattle.event_lists.specs.Views.{asked}
use Rattle.worker_pool.proofs.Kept.{behind_try, if_attempted}
use Rattle.worker_pool.proofs.desk.Desk.attempt.Goals as goal

pub invariant_of-self : goal.invariant_of-self
invariant_of-self g c =
    behind_try g.S.TopStore g.J.Opening.first c.attempt.new.self
    (if_attempted g.S.TopStore g.J.Opening.first c.self.inside.book c.attempt.new.self c.args.session c.args.line (asked c.args.text.now) c.attempt.result
    c.self.invariant.gone_on c.attempt.ensures.ok c.attempt.ensures.err)
