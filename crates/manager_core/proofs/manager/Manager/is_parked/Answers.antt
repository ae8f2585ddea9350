use Rattle.manager_core.proofs.manager.Manager.is_parked.Goals as goal

pub returns : goal.returns
returns g c = rw (← c.self.view_is) c.is_parked.ensures
