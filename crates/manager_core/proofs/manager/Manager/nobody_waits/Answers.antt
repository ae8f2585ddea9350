use Rattle.manager_core.proofs.manager.Manager.nobody_waits.Goals as goal

pub returns : goal.returns
returns g c = rw (← c.self.view_is) c.nobody_waits.ensures
