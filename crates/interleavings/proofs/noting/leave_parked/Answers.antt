use Rattle.std.proofs.Common.{inl, inr, ⊎_elim}
use Rattle.interleavings.specs.LeftOut.{IsOutAgain}
use Rattle.interleavings.proofs.noting.leave_parked.Goals as goal

pub returns-clause-out : goal.returns-clause-out
returns-clause-out g c u out =
    ⊎_elim
    (λ was. inl was)
    (λ (again : IsOutAgain c.args.was.now c.parked_sessions.result c.args.own u). inr (record { out = again.out; other = again.other; parked = c.parked_sessions.ensures u again.of_set }))
    (c.leave_out_again.ensures.out u out)

pub returns-clause-begins : goal.returns-clause-begins
returns-clause-begins g c u out =
    ⊎_elim
    (λ was. inl was)
    (λ (again : IsOutAgain c.args.was.now c.parked_sessions.result c.args.own u). inr (record { out = again.out; other = again.other; parked = c.parked_sessions.ensures u again.of_set }))
    (c.leave_out_again.ensures.begins u out)
