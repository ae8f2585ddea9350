use Rattle.interleavings.proofs.turns.Turns.next_ready.Goals as goal

pub next_of-requires : goal.next_of-requires
next_of-requires g c = rw (← c.self.view_is) c.self.invariant.1
