use Rattle.interleavings.proofs.ready.Ready.wake.Goals as goal

pub returns : goal.returns
returns c = record {
  out = λ u out. c.with-self.ensures.lacks u out;
  begins = λ u out. ((c.with-self.ensures.lacks u out.0).0, out.1);
  idle = λ u out. c.with-self-2.ensures.lacks u out;
  crowd = λ u gathered. c.leave.ensures u gathered;
}
