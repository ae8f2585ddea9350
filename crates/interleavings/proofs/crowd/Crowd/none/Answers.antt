use Rattle.std.proofs.Common.{arith}
use Rattle.std.proofs.lemmas.Nat.Bits.{bit_at_ones}
use Rattle.interleavings.proofs.crowd.Crowd.none.Goals as goal

pub returns : goal.returns
returns c u within gathered = omega (arith, bit_at_ones 64 u within, gathered)
