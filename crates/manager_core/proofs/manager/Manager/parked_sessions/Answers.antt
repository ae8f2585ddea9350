use Rattle.manager_core.proofs.manager.Manager.parked_sessions.Goals as goal

pub returns : goal.returns
returns g c = rw (← c.self.view_is) c.parked_sessions.ensures
