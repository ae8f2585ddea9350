use Rattle.std.proofs.Common.{arith}
use Rattle.std.proofs.lemmas.Nat.Bits.{bit_at_ones}
use Rattle.interleavings.proofs.ready.Ready.all.Goals as goal

pub returns : goal.returns
returns c = record {
  out = λ u within out. omega (arith, bit_at_ones 64 u within, out);
  idle = λ u within out. omega (arith, bit_at_ones 64 u within, out);
  crowd = λ u within gathered. c.none.ensures u within gathered;
}
