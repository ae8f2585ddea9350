use Rattle.std.proofs.Common.{◌∷◌, length, sym, ◌∙◌}
use Rattle.std.proofs.lemmas.Bool.{eqb-true, not-false}
use Rattle.serial_spec.specs.declared.entry.Answer.TheVariants.{Done}
use Rattle.serial_spec.specs.History.{event_of}
use Rattle.manager_core.specs.State.{entry}
use Rattle.manager_core.specs.Tables.{Tabled}
use Rattle.manager_core.proofs.Suspects.{quiet_if_absent, quiet_if_it_is_in_nobodys_way, quiet_if_nobody_waits}
use Rattle.manager_core.proofs.settling.may_close_cycle.Goals as goal

pub returns-then-is_empty : goal.returns-then-is_empty
returns-then-is_empty c =
    let m : Tabled = record { tree = c.tables.inside.tree; marks = c.tables.inside.marks; estate = c.tables.inside.estate; waits = c.tables.inside.waits } in
    rw (← c.tables.view_is)
    (λ _ rows h by reply allowed are q.
    quiet_if_nobody_waits rows (entry by (event_of c.args.name.now c.args.asked.now) (Done reply) ∷ h) m
    (eqb-true (length c.tables.inside.waits.waits) 0 (sym c.is_empty.ensures ∙ c.if-is_empty.true)) allowed are)

pub returns-in_default : goal.returns-in_default
returns-in_default c =
    let m : Tabled = record { tree = c.tables.inside.tree; marks = c.tables.inside.marks; estate = c.tables.inside.estate; waits = c.tables.inside.waits } in
    rw (← c.tables.view_is) (λ _ rows h by reply. quiet_if_absent rows h m by c.args.name.now c.args.asked.now reply (not-false _ (sym c.in_default.ensures.begun)))

pub returns : goal.returns
returns c =
    let m : Tabled = record { tree = c.tables.inside.tree; marks = c.tables.inside.marks; estate = c.tables.inside.estate; waits = c.tables.inside.waits } in
    let told = rw (c.locks-locks.ensures, c.target.ensures) at c.any_edge_by_way_of.ensures.result in
    rw (← c.tables.view_is)
    (λ none rows h by reply.
    quiet_if_it_is_in_nobodys_way rows h m by c.args.name.now c.args.asked.now reply c.in-Some.txn c.any_edge_by_way_of.ensures.once c.in-Some.ensures.number (λ keeps tells. sym (told keeps tells) ∙ none))
