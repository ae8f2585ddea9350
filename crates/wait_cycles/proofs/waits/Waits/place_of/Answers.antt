use Rattle.std.proofs.Common.{sym}
use Rattle.wait_cycles.proofs.Listed.{found_of}
use Rattle.wait_cycles.proofs.waits.Waits.place_of.Goals as goal

pub returns-clause-some : goal.returns-clause-some
returns-clause-some c =
    let some = c.in_ok-found.ensures.some in
    let wait = c.in_ok-found.found.now.wait in
    rw (sym c.self.view_is)
    (wait, found_of c.self.inside.records.waits c.find.ensures.once.apart c.args.txn c.in_ok-found.found.now.place wait some.0 some.1, some.0)
