use Rattle.std.proofs.Common.{◌≡◌, true, refl, sym, ◌∙◌}
use Rattle.serial_spec.specs.Allowed.{has_come}
use Rattle.serial_spec.specs.declared.event.Event.TheVariants.{After}
use Rattle.serial_spec.specs.declared.operation.Reply.TheVariants.{Ok}
use Rattle.serial_spec.specs.declared.entry.Answer.TheVariants.{Done}
use Rattle.manager_core.proofs.Kept.{kept_same}
use Rattle.manager_core.proofs.Facts.{sound}
use Rattle.manager_core.proofs.Settled.{settled_next}
use Rattle.manager_core.proofs.KeptOut.{after_due}
use Rattle.manager_core.proofs.manager.Manager.after.Goals as goal

pub invariant_of-self-2 : goal.invariant_of-self-2
invariant_of-self-2 g c =
    let m = c.self.inside in
    let event = After c.args.name.now c.args.when in
    let free = rw (← c.self.view_is) at c.requires.free in
    let come : has_come m.log.entries c.args.name.now c.args.when ≡ true =
    sym (c.has_come.ensures m.log.rows m.log.entries c.self.invariant.kept.allowed c.self.invariant.kept.are) ∙ c.if-not-has_come.false in
    rw (c.add.ensures.rows, c.add.ensures.entries, c.reserve.ensures.rows, c.reserve.ensures.entries)
    (settled_next g.S.TopStore m.log.rows m.log.entries m.tables m.opened m.store c.self.invariant _ _ _ refl
    (kept_same g.S.TopStore m.log.rows m.log.entries m.tables m.tables m.opened m.store c.self.invariant.kept c.args.by event (Done Ok) free
    (after_due m.log.rows m.log.entries c.args.by c.args.name.now c.args.when come) refl refl refl refl))

pub returns-clause-sound : goal.returns-clause-sound
returns-clause-sound g c = sound g.S.TopStore _ _ (invariant_of-self-2 g c) refl

pub returns-then-not-has_come-clause-sound : goal.returns-then-not-has_come-clause-sound
returns-then-not-has_come-clause-sound g c = rw (← c.self.view_is) (sound g.S.TopStore _ _ c.self.invariant refl)
