use Rattle.std.proofs.Common.{subst}
use Rattle.manager_core.specs.Calls.{Closed}
use Rattle.interleavings.proofs.Closed.{closed_few, closed_in_turn, closed_finished, is_closed}
use Rattle.interleavings.proofs.turns.Turns.into_report.Goals as goal

pub report_of-requires-clause-few : goal.report_of-requires-clause-few
report_of-requires-clause-few g c =
    let finished = rw (← c.turns.view_is) at c.finished.ensures in
    rw c.into_inner.ensures
    (closed_few g.S.TopStore (record { sessions = c.turns.inside.sessions.now; core = c.turns.inside.manager.value }) c.turns.inside.next.items c.close.new.manager c.turns.invariant.0
    (finished.0 c.if-not-finished.false) (subst (λ m. Closed m c.close.new.manager) c.deref_mut.ensures.value c.in-Ok-close.ensures.ok) c.in-Ok-close.ensures.sound)

pub report_of-requires-clause-in_turn : goal.report_of-requires-clause-in_turn
report_of-requires-clause-in_turn g c =
    let finished = rw (← c.turns.view_is) at c.finished.ensures in
    rw c.into_inner.ensures
    (closed_in_turn g.S.TopStore (record { sessions = c.turns.inside.sessions.now; core = c.turns.inside.manager.value }) c.turns.inside.next.items c.close.new.manager c.turns.invariant.0
    (finished.0 c.if-not-finished.false) (subst (λ m. Closed m c.close.new.manager) c.deref_mut.ensures.value c.in-Ok-close.ensures.ok) c.in-Ok-close.ensures.sound)

pub report_of-requires-clause-finished : goal.report_of-requires-clause-finished
report_of-requires-clause-finished g c =
    let finished = rw (← c.turns.view_is) at c.finished.ensures in
    rw c.into_inner.ensures
    (closed_finished g.S.TopStore (record { sessions = c.turns.inside.sessions.now; core = c.turns.inside.manager.value }) c.turns.inside.next.items c.close.new.manager c.turns.invariant.0
    (finished.0 c.if-not-finished.false) (subst (λ m. Closed m c.close.new.manager) c.deref_mut.ensures.value c.in-Ok-close.ensures.ok) c.in-Ok-close.ensures.sound)

pub returns-in-Ok-close-clause-ok : goal.returns-in-Ok-close-clause-ok
returns-in-Ok-close-clause-ok g c =
    let m = c.turns.inside.manager.value in
    let ss = c.turns.inside.sessions.now in
    let finished = rw (← c.turns.view_is) at c.finished.ensures in
    rw (← c.turns.view_is, c.report_of.ensures.report, c.report_of.ensures.store, c.into_inner.ensures)
    (is_closed g.S.TopStore (record { sessions = ss; core = m }) c.turns.inside.next.items c.close.new.manager c.turns.invariant.0
    (finished.0 c.if-not-finished.false) (subst (λ m. Closed m c.close.new.manager) c.deref_mut.ensures.value c.in-Ok-close.ensures.ok) c.in-Ok-close.ensures.sound c.in-Ok.labels.items c.in-Ok.ensures.ok)
