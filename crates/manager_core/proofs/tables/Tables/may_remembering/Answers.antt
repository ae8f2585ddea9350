use Rattle.manager_core.specs.Tables.{Tabled}
use Rattle.manager_core.proofs.Locks.{may_as}
use Rattle.manager_core.proofs.tables.Tables.may_remembering.Goals as goal

pub returns-clause-blocked : goal.returns-clause-blocked
returns-clause-blocked c =
    let m : Tabled = record { tree = c.self.inside.tree; marks = c.self.inside.marks; estate = c.self.inside.estate; waits = c.self.inside.waits } in
    rw (← c.self.view_is) (λ t number rows h are. may_as rows h m are t c.args.txn number c.args.asked.now c.may_ask_remembering.result c.may_ask_remembering.ensures.may)

pub returns-clause-locks : goal.returns-clause-locks
returns-clause-locks c = rw (← c.self.view_is) c.may_ask_remembering.ensures.may
