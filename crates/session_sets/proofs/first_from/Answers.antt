use Rattle.std.proofs.Common.{arith}
use Rattle.std.proofs.lemmas.Nat.Bits.{bit_at_above}
use Rattle.session_sets.proofs.Bits.{first_is, none_before, none_from, shorter, within_word}
use Rattle.session_sets.proofs.first_from.Goals as goal

pub returns-then-from-ge64-clause-none : goal.returns-then-from-ge64-clause-none
returns-then-from-ge64-clause-none c u past = bit_at_above c.args.bits 64 u c.ranges.bits.fits (omega (arith, past, c.if-from-ge64.true))

pub returns-then-rest-eq0-clause-none : goal.returns-then-rest-eq0-clause-none
returns-then-rest-eq0-clause-none c u past = none_from c.args.bits c.args.from u (omega (arith, c.if-rest-eq0.true)) past

pub returns-clause-some : goal.returns-clause-some
returns-clause-some c =
    let small = shorter c.args.bits c.args.from c.ranges.bits.fits in (
      omega arith,
      within_word c.args.bits c.args.from c.ranges.bits.fits (omega (arith, c.if-rest-eq0.false)),
      first_is c.args.bits c.args.from c.ranges.bits.fits (omega (arith, c.if-rest-eq0.false)),
      λ u from less. none_before c.args.bits c.args.from u c.ranges.bits.fits (omega (arith, c.if-rest-eq0.false)) small from less,
    )
