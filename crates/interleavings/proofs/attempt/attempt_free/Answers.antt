use Rattle.std.proofs.Common.{refl}
use Rattle.serial_spec.specs.declared.event.Event.TheVariants.{Access, Sum}
use Rattle.interleavings.proofs.Calls.{came_answered}
use Rattle.interleavings.proofs.attempt.attempt_free.Goals as goal

pub returns-in-Access-clause-ok : goal.returns-in-Access-clause-ok
returns-in-Access-clause-ok g c =
    rw c.in-Access.is
    (came_answered g.S.TopStore c.args.manager.now c.ask.new.self c.args.by (Access c.args.event.now.name.now c.in-Access.key c.in-Access.op) (λ a s. refl) c.ask.result c.ask.ensures.ok)

pub returns-in-Sum-clause-ok : goal.returns-in-Sum-clause-ok
returns-in-Sum-clause-ok g c =
    rw c.in-Sum.is
    (came_answered g.S.TopStore c.args.manager.now c.ask-in-Sum.new.self c.args.by (Sum c.args.event.now.name.now c.in-Sum.group) (λ a s. refl) c.ask-in-Sum.result c.ask-in-Sum.ensures.ok)
