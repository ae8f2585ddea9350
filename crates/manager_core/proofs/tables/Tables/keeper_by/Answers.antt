use Rattle.std.proofs.Common.{sym, ◌∙◌}
use Rattle.manager_core.specs.Tables.{Tabled}
use Rattle.manager_core.proofs.KeptOut.{kept_as, parked_as}
use Rattle.manager_core.proofs.tables.Tables.keeper_by.Goals as goal

pub returns-clause-kept : goal.returns-clause-kept
returns-clause-kept c =
    let log = c.args.log.now in
    let m : Tabled = record { tree = c.self.inside.tree; marks = c.self.inside.marks; estate = c.self.inside.estate; waits = c.self.inside.waits } in
    let are = rw (← c.self.view_is) at c.requires.are in
    let blocks = rw c.locks.ensures at c.in_ok-keeper.ensures in
    rw (← c.self.view_is)
    (kept_as log.rows log.entries m c.requires.allowed are c.has_distinct_names.ensures.distinct c.args.by c.args.txn c.in_ok-wait.wait.now (sym c.in_ok-wait.ensures)
    (sym c.same_line.ensures ∙ c.if-not-same_line.false) c.in_ok-keeper.keeper blocks)

pub returns-clause-parked : goal.returns-clause-parked
returns-clause-parked c =
    let log = c.args.log.now in
    let m : Tabled = record { tree = c.self.inside.tree; marks = c.self.inside.marks; estate = c.self.inside.estate; waits = c.self.inside.waits } in
    let are = rw (← c.self.view_is) at c.requires.are in
    let blocks = rw c.locks.ensures at c.in_ok-keeper.ensures in
    parked_as log.rows log.entries m c.requires.allowed are c.has_distinct_names.ensures.distinct c.args.by c.args.txn c.in_ok-keeper.keeper
    (kept_as log.rows log.entries m c.requires.allowed are c.has_distinct_names.ensures.distinct c.args.by c.args.txn c.in_ok-wait.wait.now (sym c.in_ok-wait.ensures)
    (sym c.same_line.ensures ∙ c.if-not-same_line.false) c.in_ok-keeper.keeper blocks)
    (sym c.is_full_for.ensures ∙ c.if-is_full_for.false)
