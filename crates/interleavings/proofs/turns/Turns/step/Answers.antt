use Rattle.std.proofs.Common.{◌≡◌, true, false, refl, sym, ap, ◌∙◌}
use Rattle.event_lists.specs.Views.{asked}
use Rattle.serial_spec.specs.declared.entry.By.TheVariants.{Line}
use Rattle.manager_core.specs.declared.outcome.Outcome.TheVariants.{Waits}
use Rattle.interleavings.proofs.Calls.{kept_out_attempt}
use Rattle.interleavings.specs.LeftOut.{is_after}
use Rattle.interleavings.specs.Turning.{can_go_on}
use Rattle.interleavings.proofs.LeftOut.{one_idle, one_out}
use Rattle.interleavings.proofs.Numbers.{free_or_waits, stepped_parked}
use Rattle.interleavings.proofs.Schedules.{stepped_none}
use Rattle.interleavings.proofs.Stuck.{told_held_up}
use Rattle.interleavings.proofs.turns.Turns.step.Goals as goal

pub returns-then-stays_parked-clause-ok : goal.returns-then-stays_parked-clause-ok
returns-then-stays_parked-clause-ok g c =
    let m = c.self.inside.manager.value in
    let ss = c.self.inside.sessions.now in
    let s = c.args.session in
    let l = c.in-Some.line in
    let event = asked c.in-Some.due in
    let due = rw (← c.self.view_is) at c.in-Some.ensures.some in
    let next = free_or_waits g.S.TopStore ss m c.self.inside.next.items c.self.invariant.0 s l event due in
    let parked = rw c.deref_mut.ensures.value at c.stays_parked.ensures.parked in
    let tried = kept_out_attempt g.S.TopStore m (Line s l) event true (λ _. parked c.if-stays_parked.true event next, λ _. refl) refl in
    rw (← c.self.view_is, c.stays_parked.ensures.same, c.deref_mut.ensures.value)
    (stepped_parked g.S.TopStore ss m c.self.inside.next.items c.self.invariant.0 s l event due m Waits tried refl)

pub returns-in_default-clause-ok : goal.returns-in_default-clause-ok
returns-in_default-clause-ok g c =
    let none = rw (← c.self.view_is) at c.in_default.ensures.none in
    rw (← c.self.view_is)
    (stepped_none g.S.TopStore (record { sessions = c.self.inside.sessions.now; core = c.self.inside.manager.value }) c.args.session none)

pub invariant_of-self-then-stays_parked : goal.invariant_of-self-then-stays_parked
invariant_of-self-then-stays_parked g c =
    let m = c.self.inside.manager.value in
    let ss = c.self.inside.sessions.now in
    let s = c.args.session in
    let l = c.in-Some.line in
    let event = asked c.in-Some.due in
    let due = rw (← c.self.view_is) at c.in-Some.ensures.some in
    let next = free_or_waits g.S.TopStore ss m c.self.inside.next.items c.self.invariant.0 s l event due in
    let parked = rw c.deref_mut.ensures.value at c.stays_parked.ensures.parked in
    let stays : can_go_on m.rows ss m.history s ≡ false =
    sym (told_held_up ss m.history m.rows c.self.invariant.0.way s l event due true (λ _. parked c.if-stays_parked.true event next, λ _. refl)) in
    rw (c.stays_parked.ensures.same, c.deref_mut.ensures.value) (
      c.self.invariant.0,
      one_out m.rows ss m.history c.self.inside.ready c.leave_out.new.self s c.self.invariant.1 c.is_after.result stays
          (λ plain. ap is_after due.event ∙ sym c.is_after.ensures ∙ plain) c.leave_out.ensures.out c.leave_out.ensures.begins c.leave_out.ensures.idle c.leave_out.ensures.crowd,
    )

pub invariant_of-self : goal.invariant_of-self
invariant_of-self g c =
    let m = c.self.inside.manager.value in
    let ss = c.self.inside.sessions.now in
    let none = rw (← c.self.view_is) at c.in_default.ensures.none in (
      c.self.invariant.0,
      one_idle m.rows ss m.history c.self.inside.ready c.leave_idle.new.self c.args.session c.self.invariant.1 none
          c.leave_idle.ensures.out c.leave_idle.ensures.begins c.leave_idle.ensures.idle c.leave_idle.ensures.crowd,
    )
