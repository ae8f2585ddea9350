use Rattle.std.proofs.Common.{sym}
use Rattle.wait_cycles.specs.declared.waits.Wait.{Wait}
use Rattle.wait_cycles.proofs.Listed.{added}
use Rattle.wait_cycles.proofs.waits.Waits.add_reserved.Goals as goal

pub returns-clause-wait : goal.returns-clause-wait
returns-clause-wait c =
    let x : Wait = record { txn = c.args.txn; asked = c.args.asked.now; by = c.args.by } in
    rw (sym c.self.view_is, c.push.ensures.waits) (added c.self.inside.records.waits x (rw (sym c.self.view_is) at c.requires.none))
