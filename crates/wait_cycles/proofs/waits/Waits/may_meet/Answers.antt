use Rattle.std.proofs.Common.{sym}
use Rattle.wait_cycles.proofs.waits.Waits.may_meet.Goals as goal

pub returns-then-not-is_empty : goal.returns-then-not-is_empty
returns-then-not-is_empty c unmarked place w there = rw c.in-Key.is (c.may_meet.ensures unmarked place w.asked (c.self.invariant place w (rw (sym c.self.view_is) at there)))
