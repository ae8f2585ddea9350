use Rattle.std.proofs.Common.{arith}
use Rattle.interleavings.proofs.Sessionless.{closed_already, no_sessions}
use Rattle.interleavings.proofs.turns.close.Goals as goal

pub returns-then-len-eq0-clause-ok : goal.returns-then-len-eq0-clause-ok
returns-then-len-eq0-clause-ok g c = closed_already c.args.manager.now c.args.sessions.now (no_sessions c.args.sessions.now (omega (arith, c.len.ensures.len, c.if-len-eq0.true))) c.requires
