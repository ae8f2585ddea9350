use Rattle.manager_core.proofs.manager.Manager.stays_parked.Goals as goal

pub returns-clause-parked : goal.returns-clause-parked
returns-clause-parked g c = rw (← c.self.view_is) c.stays_parked.ensures.parked
