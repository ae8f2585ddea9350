use Rattle.session_sets.proofs.Bits.{has_cleared, lacks_cleared}
use Rattle.session_sets.proofs.without.Goals as goal

pub returns-clause-lacks : goal.returns-clause-lacks
returns-clause-lacks c u out = lacks_cleared c.args.bits c.args.session u c.ranges.bits.fits c.requires out

pub returns-clause-has : goal.returns-clause-has
returns-clause-has c u is = has_cleared c.args.bits c.args.session u c.requires is
