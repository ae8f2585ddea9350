use Rattle.std.proofs.Common.{length}
use Rattle.wait_cycles.proofs.waits.Waits.next_met.Goals as goal

pub returns-in_err-next-clause-none : goal.returns-in_err-next-clause-none
returns-in_err-next-clause-none c = rw c.from_residual.ensures (c.in_err-next.ensures.none (length c.args.self.now.waits))
