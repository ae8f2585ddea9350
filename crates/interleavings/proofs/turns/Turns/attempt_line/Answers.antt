use Rattle.std.proofs.Common.{◌+◌, length, length-set, sym, ap, ◌∙◌, arith}
use Rattle.std.proofs.lemmas.List.{length-reverse}
use Rattle.event_lists.specs.Views.{asked}
use Rattle.manager_core.specs.Outcomes.{came_of}
use Rattle.manager_core.proofs.Exports.{waits_of}
use Rattle.interleavings.specs.Turning.{AreTurns}
use Rattle.interleavings.proofs.LeftOut.{left_out_after}
use Rattle.interleavings.proofs.Numbers.{free_or_waits, is_kept, number_fits, session_there, stepped_answered, stepped_parked, turns_answered, turns_parked}
use Rattle.interleavings.proofs.turns.Turns.attempt_line.Goals as goal

pub attempt-requires-clause-next : goal.attempt-requires-clause-next
attempt-requires-clause-next g c =
    let due = rw (← c.self.view_is) at c.requires in
    rw c.deref_mut.ensures.value
    (free_or_waits g.S.TopStore c.self.inside.sessions.now c.self.inside.manager.value c.self.inside.next.items c.self.invariant.0 c.args.session c.args.line (asked c.args.due.now) due)

pub overflow_add-line : goal.overflow_add-line
overflow_add-line g c =
    let due = rw (← c.self.view_is) at c.requires in
    omega (
      arith,
      number_fits g.S.TopStore c.self.inside.sessions.now c.self.inside.manager.value c.self.inside.next.items c.self.invariant.0 c.args.session c.args.line (asked c.args.due.now) due
          c.len-count.ensures.text,
    )

pub index_mut-requires : goal.index_mut-requires
index_mut-requires g c =
    let due = rw (← c.self.view_is) at c.requires in
    omega (
      arith,
      is_kept g.S.TopStore c.self.inside.sessions.now c.self.inside.manager.value c.self.inside.next.items c.self.invariant.0 c.args.session c.args.line (asked c.args.due.now) due,
      c.self.inside.next.ok.0,
    )

pub invariant_of-self-in-Waits : goal.invariant_of-self-in-Waits
invariant_of-self-in-Waits g c =
    let due = rw (← c.self.view_is) at c.requires in
    let to = rw c.deref_mut.ensures.value at c.in_ok-came.ensures.ok in
    let turns : AreTurns (record { sessions = c.self.inside.sessions.now; core = c.attempt.new.manager }) c.self.inside.next.items =
    turns_parked g.S.TopStore c.self.inside.sessions.now c.self.inside.manager.value c.self.inside.next.items c.self.invariant.0 c.args.session c.args.line (asked c.args.due.now) due
    c.attempt.new.manager to.outcome to.holds (waits_of to.outcome (sym to.came_is ∙ c.in-Waits.is)) in (
      turns,
      left_out_after g.S.TopStore c.self.inside.sessions.now c.self.inside.manager.value c.self.inside.next.items c.self.invariant.0 c.args.session c.args.line (asked c.args.due.now) due
          c.attempt.new.manager to.outcome to.holds c.len-count.ensures.text.few c.self.inside.ready c.note_attempt.new.ready c.self.invariant.1 c.len-before.result
          (c.len-before.ensures ∙ sym (length-reverse c.history.result.now.entries) ∙ ap length (rw c.deref.ensures at c.history.ensures)) c.in_ok-came.came to.came_is
          turns.way (rw c.deref-2.ensures at c.note_attempt.ensures),
    )

pub invariant_of-self-in_default : goal.invariant_of-self-in_default
invariant_of-self-in_default g c =
    let due = rw (← c.self.view_is) at c.requires in
    let to = rw c.deref_mut.ensures.value at c.in_ok-came.ensures.ok in
    let turns =
    turns_answered g.S.TopStore c.self.inside.sessions.now c.self.inside.manager.value c.self.inside.next.items c.self.invariant.0 c.args.session c.args.line (asked c.args.due.now) due
    c.attempt.new.manager to.outcome to.holds (λ is. c.in_default.not-Waits (to.came_is ∙ ap came_of is))
    (length-set c.self.inside.next.items c.args.session (c.args.line + 1)) in (
      turns,
      left_out_after g.S.TopStore c.self.inside.sessions.now c.self.inside.manager.value c.self.inside.next.items c.self.invariant.0 c.args.session c.args.line (asked c.args.due.now) due
          c.attempt.new.manager to.outcome to.holds c.len-count.ensures.text.few c.self.inside.ready c.note_attempt.new.ready c.self.invariant.1 c.len-before.result
          (c.len-before.ensures ∙ sym (length-reverse c.history.result.now.entries) ∙ ap length (rw c.deref.ensures at c.history.ensures)) c.in_ok-came.came to.came_is
          turns.way (rw c.deref-2.ensures at c.note_attempt.ensures),
    )

pub returns-in-Waits-clause-ok : goal.returns-in-Waits-clause-ok
returns-in-Waits-clause-ok g c =
    let due = rw (← c.self.view_is) at c.requires in
    let to = rw c.deref_mut.ensures.value at c.in_ok-came.ensures.ok in
    rw (← c.self.view_is)
    (stepped_parked g.S.TopStore c.self.inside.sessions.now c.self.inside.manager.value c.self.inside.next.items c.self.invariant.0 c.args.session c.args.line (asked c.args.due.now) due
    c.attempt.new.manager to.outcome to.holds (waits_of to.outcome (sym to.came_is ∙ c.in-Waits.is)))

pub returns-in-Waits-clause-way : goal.returns-in-Waits-clause-way
returns-in-Waits-clause-way g c = (invariant_of-self-in-Waits g c).0.way

pub returns-in_default : goal.returns-in_default
returns-in_default g c =
    let due = rw (← c.self.view_is) at c.requires in
    let to = rw c.deref_mut.ensures.value at c.in_ok-came.ensures.ok in
    record {
      ok = rw (← c.self.view_is)
          (stepped_answered g.S.TopStore c.self.inside.sessions.now c.self.inside.manager.value c.self.inside.next.items c.self.invariant.0 c.args.session c.args.line (asked c.args.due.now) due
          c.attempt.new.manager to.outcome to.holds (λ is. c.in_default.not-Waits (to.came_is ∙ ap came_of is)));
      way = (invariant_of-self-in_default g c).0.way;
      err = tt;
    }

pub note_attempt-requires : goal.note_attempt-requires
note_attempt-requires g c =
    let due = rw (← c.self.view_is) at c.requires in
    omega (arith, session_there c.self.inside.sessions.now c.self.inside.manager.value.history c.args.session (asked c.args.due.now) due.event, c.len-count.ensures.text.few)
