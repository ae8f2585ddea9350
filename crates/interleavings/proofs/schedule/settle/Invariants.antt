use Rattle.std.proofs.Common.{length}
use Rattle.txn_history.specs.Turns.{pending_in}
use Rattle.interleavings.specs.Scheduled.{SettlesSoFar}
use Rattle.interleavings.proofs.schedule.settle.Given as goal

abbrev pub invariant-loop-turns : goal.invariant-loop-turns
invariant-loop-turns g l = SettlesSoFar g.S.TopStore l.initial.turns l.turns

abbrev pub decreases-loop-turns : goal.decreases-loop-turns
decreases-loop-turns g l = pending_in l.turns.sessions l.turns.core.history (length l.turns.sessions)
