use Rattle.std.proofs.Common.{inl, inr, ⊎_elim}
use Rattle.interleavings.proofs.ready.Ready.leave_idle.Goals as goal

pub returns-then-session-lt-MOST_SESSIONS-clause-begins : goal.returns-then-session-lt-MOST_SESSIONS-clause-begins
returns-then-session-lt-MOST_SESSIONS-clause-begins c u out =
    ⊎_elim
    (λ same. inl same)
    (λ was. ⊎_elim (λ same. inl same) (λ plain. inr (was, plain)) (c.without-self-then-session-lt-MOST_SESSIONS.ensures.lacks u out.1))
    (c.without-self.ensures.lacks u out.0)
