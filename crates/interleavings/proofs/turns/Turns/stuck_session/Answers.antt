use Rattle.interleavings.proofs.Stuck.{first_must, nobody_must}
use Rattle.interleavings.proofs.turns.Turns.stuck_session.Goals as goal

pub returns-then-goes_on : goal.returns-then-goes_on
returns-then-goes_on g c =
    let t = c.args.self.now in
    nobody_must t.sessions t.core.history t.core.rows c.if-goes_on.ensures.0 c.if-goes_on.ensures.1

pub returns : goal.returns
returns g c =
    let t = c.args.self.now in
    first_must t.sessions t.core.history t.core.rows c.in_ok-first.first c.in_ok-first.ensures (λ u less. c.if-goes_on.ensures u)
