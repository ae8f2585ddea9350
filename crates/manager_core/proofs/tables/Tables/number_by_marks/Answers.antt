use Rattle.std.proofs.Common.{sym, ◌∙◌}
use Rattle.manager_core.specs.Tables.{Tabled}
use Rattle.manager_core.proofs.Causes.{done_by_state, none_by_state}
use Rattle.manager_core.proofs.tables.Tables.number_by_marks.Goals as goal

pub returns-in-Committed-clause-cause : goal.returns-in-Committed-clause-cause
returns-in-Committed-clause-cause c =
    let m : Tabled = record { tree = c.self.inside.tree; marks = c.self.inside.marks; estate = c.self.inside.estate; waits = c.self.inside.waits } in
    rw (← c.self.view_is)
    (done_by_state m c.args.name.now c.in-Some.txn c.in-Some.ensures.number c.in-Some.ensures.begun (sym c.in_default-top_aborted.is ∙ c.top_aborted.ensures)
    (sym c.status_at.ensures ∙ c.in-Committed.is))

pub returns-in_default-status_at-clause-cause : goal.returns-in_default-status_at-clause-cause
returns-in_default-status_at-clause-cause c =
    let m : Tabled = record { tree = c.self.inside.tree; marks = c.self.inside.marks; estate = c.self.inside.estate; waits = c.self.inside.waits } in
    rw (← c.self.view_is)
    (none_by_state m c.args.name.now c.in-Some.txn c.in-Some.ensures.number c.in-Some.ensures.begun (sym c.in_default-top_aborted.is ∙ c.top_aborted.ensures)
    (λ e. c.in_default-status_at.not-Committed (c.status_at.ensures ∙ e)))
