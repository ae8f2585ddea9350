use Rattle.std.proofs.Common.{is_some, ap, ◌∙◌}
use Rattle.manager_core.proofs.WaitTables.{waits_as_access}
use Rattle.manager_core.proofs.manager.Manager.waiting.Goals as goal

pub returns : goal.returns
returns g c =
    let m = c.self.inside in
    rw (← c.self.view_is)
    (c.is_some.ensures ∙ ap is_some (c.waiting_access.ensures m.log.rows m.log.entries c.self.invariant.kept.are) ∙ waits_as_access m.log.entries c.args.name.now)
