use Rattle.session_sets.proofs.Bits.{has_put, lacks_put}
use Rattle.session_sets.proofs.with.Goals as goal

pub returns-clause-lacks : goal.returns-clause-lacks
returns-clause-lacks c u out = lacks_put c.args.bits c.args.session u c.requires out

pub returns-clause-has : goal.returns-clause-has
returns-clause-has c u is = has_put c.args.bits c.args.session u c.requires is
