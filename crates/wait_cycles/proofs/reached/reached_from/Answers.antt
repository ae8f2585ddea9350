use Rattle.std.proofs.Common.{◌≡◌, ℕ, List, Some, refl, subst, sym, arith}
use Rattle.std.specs.Prelude.{nat_le, slice_get}
use Rattle.wait_cycles.specs.declared.trail.Reached.{Reached}
use Rattle.wait_cycles.specs.inner.Sorted.{up_to}
use Rattle.wait_cycles.specs.Trails.{IsFound}
use Rattle.wait_cycles.proofs.Found.{nobody, room_first}
use Rattle.wait_cycles.proofs.Lists.{few_pass}
use Rattle.wait_cycles.proofs.Closed.{covers_longer, is_at_place, gone_on, place_within, all_gone}
use Rattle.wait_cycles.proofs.reached.reached_from.Goals as goal

pub reach_from-requires-clause-room : goal.reach_from-requires-clause-room
reach_from-requires-clause-room c = room_first (up_to c.args.sorted.now c.args.start) c.clear.new.self.reached c.clear.new.self.capacity c.clear.ensures.reached (omega (arith, few_pass (λ (p : ℕ × ℕ). nat_le p.1 c.args.start) c.args.sorted.now, c.requires.room, c.clear.ensures.capacity))

pub loop-done-init : goal.loop-done-init
loop-done-init c =
    let pairs = (up_to c.args.sorted.now c.args.start) in
    let e = c.reach_from.ensures in
    let empty = c.clear.ensures.reached in
    let room = room_first pairs c.clear.new.self.reached c.clear.new.self.capacity empty (omega (arith, few_pass (λ (p : ℕ × ℕ). nat_le p.1 c.args.start) c.args.sorted.now, c.requires.room, c.clear.ensures.capacity)) in (
      e.found c.args.start (subst (λ (xs : List Reached). IsFound pairs c.args.start xs) (sym empty) (nobody pairs c.args.start)) refl,
      e.covers,
      λ i a less. absurd (omega (arith, less)),
      omega arith,
      omega (arith, e.longer.fewer, e.capacity, room),
      omega (arith, e.capacity, c.clear.ensures.capacity),
    )

pub loop-done-preserved : goal.loop-done-preserved
loop-done-preserved c =
    let i = c.loop-done.invariant in
    let pairs = (up_to c.args.sorted.now c.args.start) in
    let old = c.loop-done.trail.reached in
    let new = c.reach_from-in-loop-done.new.trail.reached in
    let n = c.loop-done.done in
    let r = c.at-txn.result in
    let at : slice_get old n ≡ Some r = c.at-txn.ensures in
    let e = c.reach_from-in-loop-done.ensures in (
      e.found c.args.start i.0 (is_at_place pairs c.args.start old new e.longer n r at e.covers i.2 c.args.start),
      covers_longer pairs c.args.start old new e.longer c.args.start i.1,
      gone_on pairs c.args.start old new e.longer n r at e.covers i.2,
      place_within pairs c.args.start old new e.longer n r at e.covers i.2,
      omega (arith, e.longer.fewer, e.capacity, i.4),
      omega (arith, e.capacity, i.5),
    )

pub returns-clause-trail : goal.returns-clause-trail
returns-clause-trail c =
    let i = c.loop-done.invariant in
    all_gone (up_to c.args.sorted.now c.args.start) c.args.start c.loop-done.trail.reached c.loop-done.done i.0 i.1 i.2 (omega (arith, c.loop-done-test.false, c.len.ensures))
