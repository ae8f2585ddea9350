use Rattle.std.proofs.Common.{inl, inr, ⊎_elim}
use Rattle.interleavings.proofs.Bits.{either}
use Rattle.interleavings.proofs.ready.Ready.leave_crowd_out.Goals as goal

pub returns-clause-out : goal.returns-clause-out
returns-clause-out c u out = either c.args.self.now.may c.args.self.now.crowd.apart u out

pub returns-clause-begins : goal.returns-clause-begins
returns-clause-begins c u out =
    ⊎_elim (λ was. inl (was, out.1)) (λ gathered. inr gathered) (either c.args.self.now.may c.args.self.now.crowd.apart u out.0)
