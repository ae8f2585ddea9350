use Rattle.wait_cycles.proofs.Bits.{kept, put}
use Rattle.wait_cycles.proofs.places.with.Goals as goal

pub returns-clause-has : goal.returns-clause-has
returns-clause-has c = put c.args.places c.args.place c.bit_of.result c.bit_of.ensures

pub returns-clause-kept : goal.returns-clause-kept
returns-clause-kept c = kept c.args.places c.args.place c.bit_of.result c.bit_of.ensures
