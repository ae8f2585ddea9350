use Rattle.std.proofs.Common.{◌<◌, length, refl, arith}
use Rattle.manager_core.proofs.Answers.{abort_allowed}
use Rattle.manager_core.proofs.Kept.{abort_cause, kept_abort}
use Rattle.manager_core.proofs.Settled.{aborts_no_wait, settled_next, settled_roomy}
use Rattle.manager_core.proofs.Facts.{sound}
use Rattle.manager_core.proofs.manager.Manager.abort.Goals as goal

pub invariant_of-self-in_err-reserve_aborts : goal.invariant_of-self-in_err-reserve_aborts
invariant_of-self-in_err-reserve_aborts g c =
    let m = c.self.inside in
    rw (c.reserve.ensures.rows, c.reserve.ensures.entries)
    (settled_roomy g.S.TopStore m.log.rows m.log.entries m.tables m.opened m.store c.self.invariant _ c.reserve_aborts.ensures.same)

pub invariant_of-self-2 : goal.invariant_of-self-2
invariant_of-self-2 g c =
    let m = c.self.inside in
    let name = c.args.name.now in
    let some : 0 < length name = omega (arith, c.has_labels.ensures.some) in
    let roomy = settled_roomy g.S.TopStore m.log.rows m.log.entries m.tables m.opened m.store c.self.invariant c.reserve_aborts.new.self c.reserve_aborts.ensures.same in
    let free = rw (← c.self.view_is) at c.requires.free in
    rw (c.add.ensures.rows, c.add.ensures.entries, c.of-outcome.ensures, c.reserve.ensures.rows, c.reserve.ensures.entries)
    (settled_next g.S.TopStore m.log.rows m.log.entries c.reserve_aborts.new.self m.opened m.store roomy _ _ _ (aborts_no_wait name _)
    (kept_abort g.S.TopStore m.log.rows m.log.entries c.reserve_aborts.new.self _ m.opened m.store roomy.kept c.args.by name _ free some c.abort.ensures.cause c.abort.ensures.aborts))

pub returns-clause-ok : goal.returns-clause-ok
returns-clause-ok g c =
    let m = c.self.inside in
    let name = c.args.name.now in
    let some : 0 < length name = omega (arith, c.has_labels.ensures.some) in
    let roomy = settled_roomy g.S.TopStore m.log.rows m.log.entries m.tables m.opened m.store c.self.invariant c.reserve_aborts.new.self c.reserve_aborts.ensures.same in
    let found = abort_cause g.S.TopStore m.log.rows m.log.entries c.reserve_aborts.new.self m.tables m.opened m.store roomy.kept c.args.by name _ some c.abort.ensures.cause in
    rw (← c.self.view_is, c.add.ensures.rows, c.add.ensures.entries, c.of-outcome.ensures, c.reserve.ensures.rows, c.reserve.ensures.entries, c.abort.ensures.table, c.reserve_aborts.ensures.same.estate.rows) record {
      allowed = abort_allowed m.log.rows m.log.entries c.args.by name _ found;
      added = refl;
    }

pub returns-clause-sound : goal.returns-clause-sound
returns-clause-sound g c = sound g.S.TopStore _ _ (invariant_of-self-2 g c) refl
