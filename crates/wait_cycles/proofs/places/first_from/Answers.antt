use Rattle.std.proofs.Common.{arith}
use Rattle.wait_cycles.proofs.Bits.{lacks_before, lacks_far, lacks_near}
use Rattle.wait_cycles.proofs.places.first_from.Goals as goal

pub returns-then-places-eq0-clause-none : goal.returns-then-places-eq0-clause-none
returns-then-places-eq0-clause-none c p past = lacks_far c.args.places p (omega arith) (omega (arith, past))

pub returns-then-rest-eq0-clause-none : goal.returns-then-rest-eq0-clause-none
returns-then-rest-eq0-clause-none c p past = lacks_near c.args.places c.args.from p (omega arith) (omega (arith, c.if-rest-eq0.true)) past

pub returns-clause-some : goal.returns-clause-some
returns-clause-some c = (omega arith, λ p past less. lacks_before c.args.places c.args.from c.ranges.places.fits (omega (arith, c.if-rest-eq0.false)) p past less)
