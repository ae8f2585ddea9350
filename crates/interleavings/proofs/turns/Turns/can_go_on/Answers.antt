use Rattle.std.proofs.Common.{true, refl}
use Rattle.event_lists.specs.Views.{asked}
use Rattle.interleavings.proofs.Numbers.{free_or_waits}
use Rattle.interleavings.proofs.Stuck.{told_held_up}
use Rattle.interleavings.proofs.turns.Turns.can_go_on.Goals as goal

pub returns-then-is_parked : goal.returns-then-is_parked
returns-then-is_parked g c =
    let m = c.self.inside.manager.value in
    let ss = c.self.inside.sessions.now in
    let event = asked c.args.due.now in
    let due = rw (← c.self.view_is) at c.requires in
    let next = free_or_waits g.S.TopStore ss m c.self.inside.next.items c.self.invariant.0 c.args.session c.args.line event due in
    let parked = rw c.deref.ensures at c.is_parked.ensures in
    rw (← c.self.view_is)
    (told_held_up ss m.history m.rows c.self.invariant.0.way c.args.session c.args.line event due true (λ _. parked c.if-is_parked.true event next, λ _. refl))

pub returns : goal.returns
returns g c =
    let m = c.self.inside.manager.value in
    let due = rw (← c.self.view_is) at c.requires in
    rw (← c.self.view_is)
    (told_held_up c.self.inside.sessions.now m.history m.rows c.self.invariant.0.way c.args.session c.args.line (asked c.args.due.now) due
    c.held_up.result (rw c.deref-2.ensures at c.held_up.ensures))
