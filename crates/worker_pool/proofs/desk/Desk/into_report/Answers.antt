use Rattle.std.proofs.Common.{Some, ap}
use Rattle.worker_pool.proofs.Reported.{closed_from, unserved, unserved_close}
use Rattle.worker_pool.proofs.desk.Desk.into_report.Goals as goal

pub returns-in-Some-clause-off : goal.returns-in-Some-clause-off
returns-in-Some-clause-off g c =
    unserved g.S.TopStore g.J.Opening.first c.self.inside.book c.self.inside.is_tried c.in-Some.fault c.give_up.result c.self.invariant c.give_up.ensures
    (λ is. c.in-Some.ensures.thread (ap (λ f. Some f) is))

pub returns-in-None-clause-ok : goal.returns-in-None-clause-ok
returns-in-None-clause-ok g c = closed_from g.S.TopStore g.J.Opening.first c.self.inside.book c.close.result c.self.invariant.gone_on c.close.ensures.ok

pub returns-in-None-clause-off : goal.returns-in-None-clause-off
returns-in-None-clause-off g c =
    unserved_close g.S.TopStore g.J.Opening.first c.self.inside.book c.self.inside.is_tried c.close.result c.self.invariant c.close.ensures.err c.close.ensures.go
