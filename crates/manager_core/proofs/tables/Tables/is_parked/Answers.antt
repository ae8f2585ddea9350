use Rattle.std.proofs.Common.{sym, ◌∙◌}
use Rattle.std.proofs.lemmas.Bool.{not-true}
use Rattle.manager_core.specs.Tables.{Tabled}
use Rattle.manager_core.proofs.KeptOut.{parked_as}
use Rattle.manager_core.proofs.tables.Tables.is_parked.Goals as goal

pub returns-in-Some : goal.returns-in-Some
returns-in-Some c room =
    let log = c.args.log.now in
    let m : Tabled = record { tree = c.self.inside.tree; marks = c.self.inside.marks; estate = c.self.inside.estate; waits = c.self.inside.waits } in
    let look = c.in-Some.look in
    let kept = c.self.invariant c.args.by look.txn look.keeper c.in-Some.ensures in
    let are = rw (← c.self.view_is) at c.requires.are in
    let full = rw (← c.self.view_is) at c.is_full_at.ensures in
    parked_as log.rows log.entries m c.requires.allowed are c.has_distinct_names.ensures.distinct c.args.by look.txn look.keeper kept
    (sym (full (record { txn = look.txn; asked = kept.asked; by = c.args.by }) kept.waiting) ∙ not-true c.is_full_at.result room)
