use Rattle.std.proofs.Common.{inl, inr, ⊎_elim}
use Rattle.interleavings.proofs.ready.Ready.leave_out.Goals as goal

pub returns-then-is_after-clause-begins : goal.returns-then-is_after-clause-begins
returns-then-is_after-clause-begins c u out =
    ⊎_elim (λ same. absurd ((c.with-self.ensures.lacks u out.1).1 same)) (λ was. inr (was, (c.with-self.ensures.lacks u out.1).0)) (c.without-self.ensures.lacks u out.0)

pub returns-else-is_after-clause-begins : goal.returns-else-is_after-clause-begins
returns-else-is_after-clause-begins c u out =
    ⊎_elim
    (λ same. inl (same, c.if-is_after.false))
    (λ was. ⊎_elim (λ same. inl (same, c.if-is_after.false)) (λ plain. inr (was, plain)) (c.without-self-else-is_after.ensures.lacks u out.1))
    (c.without-self.ensures.lacks u out.0)
