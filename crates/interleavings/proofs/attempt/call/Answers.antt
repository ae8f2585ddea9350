use Rattle.std.proofs.Common.{refl}
use Rattle.serial_spec.specs.declared.event.Event.TheVariants.{Begin, Access, Sum, Abort, After}
use Rattle.interleavings.proofs.Calls.{if_added, if_answered, if_awaited, if_committed}
use Rattle.interleavings.proofs.attempt.call.Goals as goal

pub returns-in-Begin-clause-ok : goal.returns-in-Begin-clause-ok
returns-in-Begin-clause-ok g c =
    rw c.in-Begin.is
    (if_added g.S.TopStore c.args.manager.now c.begin.new.self c.args.by (Begin c.args.event.now.name.now) (λ a s. refl) c.begin.result c.begin.ensures.ok c.begin.ensures.sound)

pub returns-in-Access-clause-ok : goal.returns-in-Access-clause-ok
returns-in-Access-clause-ok g c =
    rw c.in-Access.is
    (if_answered g.S.TopStore c.args.manager.now c.access.new.self c.args.by (Access c.args.event.now.name.now c.in-Access.key c.in-Access.op) (λ a s. refl) c.access.result c.access.ensures.ok)

pub returns-in-Sum-clause-ok : goal.returns-in-Sum-clause-ok
returns-in-Sum-clause-ok g c =
    rw c.in-Sum.is
    (if_answered g.S.TopStore c.args.manager.now c.sum.new.self c.args.by (Sum c.args.event.now.name.now c.in-Sum.group) (λ a s. refl) c.sum.result c.sum.ensures.ok)

pub returns-in-Commit-clause-ok : goal.returns-in-Commit-clause-ok
returns-in-Commit-clause-ok g c =
    rw c.in-Commit.is
    (if_committed g.S.TopStore c.args.manager.now c.commit.new.self c.args.by c.args.event.now.name.now c.commit.result c.commit.ensures.ok c.commit.ensures.sound)

pub returns-in-Abort-clause-ok : goal.returns-in-Abort-clause-ok
returns-in-Abort-clause-ok g c =
    rw c.in-Abort.is
    (if_added g.S.TopStore c.args.manager.now c.abort.new.self c.args.by (Abort c.args.event.now.name.now) (λ a s. refl) c.abort.result c.abort.ensures.ok c.abort.ensures.sound)

pub returns-in-After-clause-ok : goal.returns-in-After-clause-ok
returns-in-After-clause-ok g c =
    rw c.in-After.is
    (if_awaited g.S.TopStore c.args.manager.now c.after.new.self c.args.by (After c.args.event.now.name.now c.in-After.when) (λ a s. refl) c.after.result c.after.ensures.ok c.after.ensures.sound)
