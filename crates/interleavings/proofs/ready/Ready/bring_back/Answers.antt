use Rattle.interleavings.proofs.ready.Ready.bring_back.Goals as goal

pub returns-clause-begins : goal.returns-clause-begins
returns-clause-begins c u out = ((c.with-self.ensures.lacks u out.0).0, out.1)
