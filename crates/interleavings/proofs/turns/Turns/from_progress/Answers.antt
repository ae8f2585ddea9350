use Rattle.interleavings.proofs.turns.Turns.from_progress.Goals as goal

pub invariant_of-result : goal.invariant_of-result
invariant_of-result g c = rw (← c.progress.view_is) at c.requires
