use Rattle.std.proofs.Common.{rules, refl}
use Rattle.event_lists.specs.Views.{asked}
use Rattle.manager_core.proofs.Events.{waits_asked}
use Rattle.manager_core.proofs.Kept.{kept_stuck}
use Rattle.manager_core.proofs.Facts.{sound}
use Rattle.manager_core.proofs.Settled.{settled_next, stuck_no_wait}
use Rattle.manager_core.proofs.manager.Manager.cancel_access.Goals as goal

pub invariant_of-self-2 : goal.invariant_of-self-2
invariant_of-self-2 g c =
    let m = c.self.inside in
    let event = c.args.event.now in
    let waits = rw (← c.self.view_is) at c.requires.waits in
    let of_it = waits_asked m.log.entries c.args.by event.name.now event.act.now waits in
    rw (c.add_stuck.ensures.rows, c.add_stuck.ensures.entries, c.reserve.ensures.rows, c.reserve.ensures.entries)
    (settled_next g.S.TopStore m.log.rows m.log.entries m.tables m.opened m.store c.self.invariant _ _ _ (stuck_no_wait (asked event))
    (kept_stuck g.S.TopStore m.log.rows m.log.entries m.tables _ m.opened m.store c.self.invariant.kept c.args.by (asked event) waits event.name.now of_it.0 of_it.1 (search rules) (search rules)))

pub returns-clause-sound : goal.returns-clause-sound
returns-clause-sound g c = sound g.S.TopStore _ _ (invariant_of-self-2 g c) refl
