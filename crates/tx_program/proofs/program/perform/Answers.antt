use Rattle.std.proofs.Common.{inr, refl}
use Rattle.tx_program.proofs.Served.{for_alone}
use Rattle.tx_program.proofs.program.perform.Goals as goal

pub returns-in-Replay-clause-done : goal.returns-in-Replay-clause-done
returns-in-Replay-clause-done g c = λ is. rw c.in-Replay.is (c.replay.ensures.done is, refl)

pub returns-in-Replay-clause-failed : goal.returns-in-Replay-clause-failed
returns-in-Replay-clause-failed g c = λ is. rw c.in-Replay.is (c.replay.ensures.failed is, refl)

pub returns-in-Check-clause-failed : goal.returns-in-Check-clause-failed
returns-in-Check-clause-failed g c = λ is. rw c.in-Check.is (c.judge.ensures.failed is, refl)

pub returns-in-Live-clause-accounts : goal.returns-in-Live-clause-accounts
returns-in-Live-clause-accounts g c =
    rw c.in-Live.is (inr (inr (c.live.ensures.status, c.live.ensures.done, c.live.ensures.failed)))

pub returns-in-Show-clause-done : goal.returns-in-Show-clause-done
returns-in-Show-clause-done g c = λ is. rw c.in-Show.is (c.show.ensures.done is, refl)

pub returns-in-Show-clause-failed : goal.returns-in-Show-clause-failed
returns-in-Show-clause-failed g c = λ is. rw c.in-Show.is (c.show.ensures.failed is, refl)

pub returns-in-Show-clause-accounts : goal.returns-in-Show-clause-accounts
returns-in-Show-clause-accounts g c = rw c.in-Show.is (for_alone c.show.ensures.accounts)

pub returns-in-Draw-clause-done : goal.returns-in-Draw-clause-done
returns-in-Draw-clause-done g c = λ is. rw c.in-Draw.is (c.draw.ensures.done is, refl)

pub returns-in-Draw-clause-failed : goal.returns-in-Draw-clause-failed
returns-in-Draw-clause-failed g c = λ is. rw c.in-Draw.is (c.draw.ensures.failed is, refl)

pub returns-in-Draw-clause-accounts : goal.returns-in-Draw-clause-accounts
returns-in-Draw-clause-accounts g c = rw c.in-Draw.is (for_alone c.draw.ensures.accounts)
