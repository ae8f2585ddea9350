use Rattle.manager_core.proofs.KeptOut.{out_by_locks}
use Rattle.manager_core.proofs.tables.Tables.is_kept_out.Goals as goal

pub returns : goal.returns
returns c =
    let log = c.args.log.now in
    out_by_locks log.rows log.entries c.args.self.now c.requires.allowed c.requires.are c.args.by c.args.name.now c.args.asked.now c.in-Some.txn
    c.in-Some.ensures.some c.may.result c.may.ensures.locks
