use Rattle.std.proofs.Common.{sym}
use Rattle.wait_cycles.proofs.Listed.{found_of}
use Rattle.wait_cycles.proofs.waits.Waits.of.Goals as goal

pub returns : goal.returns
returns c =
    let some = c.in_ok-record.ensures.some in
    rw (sym c.self.view_is) (sym (found_of c.self.inside.records.waits c.find.ensures.once.apart c.args.txn c.in_ok-record.record.now.place c.in_ok-record.record.now.wait some.0 some.1))
