use Rattle.std.proofs.Common.{arith}
use Rattle.interleavings.proofs.turns.Turns.next_of.Goals as goal

pub returns-then-next-count-clause-some : goal.returns-then-next-count-clause-some
returns-then-next-count-clause-some g c =
    let some = c.in_ok-next.ensures.some in
    (some.0, omega (arith, c.count.ensures, c.if-next-count.true), λ u from less. c.requires.held u (some.2 u from less))
