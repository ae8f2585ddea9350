use Rattle.interleavings.proofs.turns.Turns.goes_on_still.Goals as goal

pub some_goes_on-goes_on-requires : goal.some_goes_on-goes_on-requires
some_goes_on-goes_on-requires g c = rw (← c.self.view_is) c.self.invariant.1

pub invariant_of-self : goal.invariant_of-self
invariant_of-self g c = (c.self.invariant.0, rw (← c.self.view_is) at c.some_goes_on-goes_on.ensures.left)
