use Rattle.std.proofs.Common.{◌≡◌, sym, ap, ◌∙◌, arith}
use Rattle.std.specs.Int.{bit_at}
use Rattle.std.proofs.lemmas.Nat.Bits.{bit_at_ones}
use Rattle.interleavings.proofs.crowd.Crowd.takes.Goals as goal

pub returns-then-self : goal.returns-then-self
returns-then-self c told u low gathered =
    let none : bit_at 18446744073709551615 u ≡ 0 = ap (λ x. bit_at x u) (sym c.if-self.true) ∙ gathered in
    absurd (omega (arith, bit_at_ones 64 u low, none))
