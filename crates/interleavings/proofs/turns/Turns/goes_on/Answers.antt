use Rattle.interleavings.proofs.turns.Turns.goes_on.Goals as goal

pub some_goes_on-requires : goal.some_goes_on-requires
some_goes_on-requires g c = rw (← c.self.view_is) c.self.invariant.1
