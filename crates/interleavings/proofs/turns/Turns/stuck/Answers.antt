use Rattle.std.proofs.Common.{◌+◌, length-set, sym, subst, arith}
use Rattle.event_lists.specs.Views.{asked}
use Rattle.serial_spec.specs.declared.entry.By.TheVariants.{Line}
use Rattle.serial_spec.specs.Interleaving.{MustGiveUp}
use Rattle.txn_history.specs.Lines.{CanGiveUp}
use Rattle.txn_history.proofs.Exports.{legal_allowed, next_can_give_up}
use Rattle.interleavings.specs.Turning.{IsDue}
use Rattle.interleavings.proofs.LeftOut.{all_ready}
use Rattle.interleavings.proofs.Numbers.{number_fits, turns_stuck, unstuck, unstuck_none}
use Rattle.interleavings.proofs.turns.Turns.stuck.Goals as goal

pub cancel-requires : goal.cancel-requires
cancel-requires g c =
    let m = c.self.inside.manager.value in
    let ss = c.self.inside.sessions.now in
    let s = c.in-Some.session in
    let event = asked c.unwrap-line.result.1 in
    let due : IsDue ss m.history s c.unwrap-line.result.0 event = rw (← c.self.view_is, c.unwrap-line.ensures) at c.due.ensures.some in
    let tells = rw (← c.self.view_is) at c.in-Some.ensures in
    let way = c.self.invariant.0.way in
    rw c.deref_mut.ensures.value (record {
      may = subst (λ n. CanGiveUp m.history (Line s n) event) (sym due.number)
          (next_can_give_up m.rows ss m.history (legal_allowed m.rows m.history way.legal) way.in_turn s event due.event (tells.1.stuck.none_goes_on s event due.event));
    })

pub overflow_add-line : goal.overflow_add-line
overflow_add-line g c =
    let m = c.self.inside.manager.value in
    let ss = c.self.inside.sessions.now in
    let due : IsDue ss m.history c.in-Some.session c.unwrap-line.result.0 (asked c.unwrap-line.result.1) = rw (← c.self.view_is, c.unwrap-line.ensures) at c.due.ensures.some in
    omega (arith, number_fits g.S.TopStore ss m c.self.inside.next.items c.self.invariant.0 c.in-Some.session c.unwrap-line.result.0 (asked c.unwrap-line.result.1) due c.len-count.ensures.text)

pub returns-in_default-clause-ok : goal.returns-in_default-clause-ok
returns-in_default-clause-ok g c = unstuck_none g.S.TopStore c.args.self.now c.in_default.ensures

pub returns-clause-ok : goal.returns-clause-ok
returns-clause-ok g c =
    let m = c.self.inside.manager.value in
    let ss = c.self.inside.sessions.now in
    let s = c.in-Some.session in
    let event = asked c.unwrap-line.result.1 in
    let due : IsDue ss m.history s c.unwrap-line.result.0 event = rw (← c.self.view_is, c.unwrap-line.ensures) at c.due.ensures.some in
    let tells = rw (← c.self.view_is) at c.in-Some.ensures in
    let must : MustGiveUp m.rows ss m.history s event = record { left = due.event; stuck = tells.1.stuck } in
    let added = rw c.deref_mut.ensures.value at c.in_ok-cancel.ensures.ok in
    rw (← c.self.view_is) (unstuck ss m c.cancel.new.self c.self.inside.next.items c.self.invariant.0 s c.unwrap-line.result.0 event due must added g.S.TopStore)

pub invariant_of-self-2 : goal.invariant_of-self-2
invariant_of-self-2 g c =
    let m = c.self.inside.manager.value in
    let ss = c.self.inside.sessions.now in
    let s = c.in-Some.session in
    let event = asked c.unwrap-line.result.1 in
    let due : IsDue ss m.history s c.unwrap-line.result.0 event = rw (← c.self.view_is, c.unwrap-line.ensures) at c.due.ensures.some in
    let tells = rw (← c.self.view_is) at c.in-Some.ensures in
    let must : MustGiveUp m.rows ss m.history s event = record { left = due.event; stuck = tells.1.stuck } in
    let added = rw c.deref_mut.ensures.value at c.in_ok-cancel.ensures.ok in (
      turns_stuck ss m c.cancel.new.self c.self.inside.next.items c.self.invariant.0 s c.unwrap-line.result.0 event due must added
          (length-set c.self.inside.next.items s (c.unwrap-line.result.0 + 1)),
      all_ready c.cancel.new.self.rows ss c.cancel.new.self.history c.all-self-inside.result c.len-count.ensures.text.few c.all-self-inside.ensures.out c.all-self-inside.ensures.idle c.all-self-inside.ensures.crowd,
    )
