use Rattle.std.proofs.Common.{◌≡◌, List, ℕ, length, reverse, sym, ap, subst, ◌∙◌, arith}
use Rattle.std.proofs.lemmas.Option.{slice_get_within}
use Rattle.wait_cycles.specs.Trails.{nodes}
use Rattle.wait_cycles.proofs.Lists.{length_map}
use Rattle.wait_cycles.proofs.Ways.{IsWay, way_first, way_back, way_done, less_high, within_before, turned}
use Rattle.wait_cycles.proofs.finder.cycle_to.Goals as goal

pub at-last-requires : goal.at-last-requires
at-last-requires c =
    let trail = c.args.trail.now.reached in
    let size : length (nodes trail) ≡ length trail = length_map (λ x. x.txn) trail in
    let named = slice_get_within (nodes trail) c.args.place c.args.start c.requires.place in
    omega (arith, size, named)

pub loop-before-init : goal.loop-before-init
loop-before-init c =
    let trail = c.args.trail.now.reached in
    let r = c.at-last.result in
    let at = c.at-last.ensures in (
      within_before trail c.requires.backward c.args.place r at,
      λ pairs found.
          subst (λ (xs : List ℕ). IsWay pairs c.args.start trail c.args.place r.from (reverse xs)) (sym c.new-members.ensures.items)
          (way_first pairs c.args.start trail c.args.place found c.requires.place r at),
    )

pub at-reached-requires : goal.at-reached-requires
at-reached-requires c = rw c.in-Some.is at c.loop-before.invariant.0

pub loop-before-smaller : goal.loop-before-smaller
loop-before-smaller c = rw c.in-Some.is (less_high c.args.trail.now.reached c.requires.backward c.in-Some.place c.at-reached.result c.at-reached.ensures)

pub loop-before-preserved : goal.loop-before-preserved
loop-before-preserved c =
    let trail = c.args.trail.now.reached in
    let j = c.in-Some.place in
    let r = c.at-reached.result in
    let at = c.at-reached.ensures in (
      within_before trail c.requires.backward j r at,
      λ pairs found.
          let way = rw c.in-Some.is at (c.loop-before.invariant.1 pairs found) in
          subst (λ (xs : List ℕ). IsWay pairs c.args.start trail c.args.place r.from xs)
          (sym (ap reverse c.in_ok-push.ensures.items ∙ turned c.loop-before.members.items r.txn))
          (way_back pairs c.args.start trail c.args.place found c.requires.place j (reverse c.loop-before.members.items) way r at),
    )

pub returns-clause-cycle : goal.returns-clause-cycle
returns-clause-cycle c = λ pairs found.
    let way = rw c.in_default.is at (c.loop-before.invariant.1 pairs found) in
    rw (c.reverse.ensures.items, c.in_ok-push-2.ensures.items, turned c.loop-before.members.items c.args.start)
    (way_done pairs c.args.start c.args.trail.now.reached c.args.place found c.requires.place (reverse c.loop-before.members.items) way)
