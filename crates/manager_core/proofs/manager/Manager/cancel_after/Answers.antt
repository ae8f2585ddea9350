use Rattle.std.proofs.Common.{not, refl, ap}
use Rattle.serial_spec.specs.declared.event.Event.TheVariants.{After}
use Rattle.serial_spec.specs.declared.entry.Answer.TheVariants.{Stuck}
use Rattle.manager_core.proofs.Kept.{kept_same}
use Rattle.manager_core.proofs.Facts.{sound}
use Rattle.manager_core.proofs.Settled.{settled_next, stuck_no_wait}
use Rattle.manager_core.proofs.manager.Manager.cancel_after.Goals as goal

pub invariant_of-self-2 : goal.invariant_of-self-2
invariant_of-self-2 g c =
    let m = c.self.inside in
    let may = rw (← c.self.view_is) at c.requires.may in
    let event = After c.args.name.now c.args.when in
    rw (c.add_stuck.ensures.rows, c.add_stuck.ensures.entries, c.reserve.ensures.rows, c.reserve.ensures.entries)
    (settled_next g.S.TopStore m.log.rows m.log.entries m.tables m.opened m.store c.self.invariant _ _ _ (stuck_no_wait event)
    (kept_same g.S.TopStore m.log.rows m.log.entries m.tables m.tables m.opened m.store c.self.invariant.kept c.args.by event Stuck may.0 (ap not may.1) refl refl refl refl))

pub returns-clause-sound : goal.returns-clause-sound
returns-clause-sound g c = sound g.S.TopStore _ _ (invariant_of-self-2 g c) refl
