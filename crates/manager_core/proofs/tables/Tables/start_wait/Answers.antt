use Rattle.manager_core.proofs.Looked.{seen_started}
use Rattle.manager_core.proofs.tables.Tables.start_wait.Goals as goal

pub invariant_of-self : goal.invariant_of-self
invariant_of-self c =
    let m = c.self.inside in
    let request = c.args.request.now in
    let number = rw (← c.self.view_is) at c.number_near-txn.ensures.number in
    let none = rw (← c.self.view_is) at c.requires.none in
    seen_started m.tree m.estate.locks m.waits.waits c.add_reserved.new.self.waits m.looks c.put.new.self request.by c.number_near-txn.result c.in-Some.keeper request.asked.now
    c.add_reserved.ensures.wait (none c.number_near-txn.result number) c.put.ensures request.name.now number (rw c.locks.ensures at c.in-Some.ensures) c.self.invariant
