use Rattle.interleavings.proofs.Bits.{neither}
use Rattle.interleavings.proofs.ready.Ready.bring_back_afters.Goals as goal

pub returns-clause-out : goal.returns-clause-out
returns-clause-out c u out = neither c.args.self.now.may c.args.self.now.afters u out
