use Rattle.std.proofs.Common.{◌∷◌, ◌++◌, [], nat_eq, sym, ◌∙◌, arith}
use Rattle.std.specs.Prelude.{nat_le}
use Rattle.std.specs.List.{list_any}
use Rattle.std.proofs.lemmas.List.{length-append}
use Rattle.std.proofs.lemmas.Option.{slice_get_within}
use Rattle.wait_cycles.specs.inner.Sorted.{up_to}
use Rattle.wait_cycles.proofs.Found.{next, found_next, longer_next, longer_none, member_longer, not_yet}
use Rattle.wait_cycles.proofs.Sorted.{covered, covered_more, goes_on, pushed_node, reached_before}
use Rattle.wait_cycles.proofs.reached.reach_from.Goals as goal
use Rattle.wait_cycles.proofs.reached.reach_from.Goals.{then-leads_on, else-leads_on}

pub loop-other-init : goal.loop-other-init
loop-other-init c =
    let parted = c.first_place-place.ensures in (
      λ first found is. found,
      longer_none (up_to c.args.sorted.now c.args.start) c.args.trail.now.reached,
      λ i p less at same low. let below = (parted i p at).0 less in absurd (omega (arith, below, same)),
      λ i p le at. (parted i p at).1 le,
      omega arith,
    )

pub push-requires-clause-room : goal.push-requires-clause-room
push-requires-clause-room c =
    let i = c.loop-other.invariant in
    let pairs = up_to c.args.sorted.now c.args.start in
    let old = c.args.trail.now.reached in
    let cur = c.loop-other.trail.reached in
    let b = c.in-Some.other in
    let leads = c.leads_on.ensures in
    let on = goes_on c.args.sorted.now c.args.start c.args.txn c.loop-other.place b cur c.in-Some.ensures.some (sym leads ∙ c.if-leads_on.true) in
    let less = (longer_next pairs old cur c.args.txn c.args.from on.0 (c.args.txn, b) on.1 on.2 i.1).fewer in
    let long = length-append cur (next pairs old cur c.args.txn c.args.from on.0 (c.args.txn, b) on.1 on.2 ∷ []) in
    omega (arith, less, long, c.requires.room, i.4)

pub push-requires-clause-fresh : goal.push-requires-clause-fresh
push-requires-clause-fresh c = not_yet (nat_le c.in-Some.other c.args.start) (list_any (λ r. nat_eq c.in-Some.other r.txn) c.loop-other.trail.reached) (sym c.leads_on.ensures ∙ c.if-leads_on.true)

pub loop-other-smaller : goal.loop-other-smaller
loop-other-smaller c = let within = slice_get_within c.args.sorted.now c.loop-other.place (c.args.txn, c.in-Some.other) c.in-Some.ensures.some in omega (arith, within)

pub loop-other-preserved : goal.loop-other-preserved
loop-other-preserved c =
    let i = c.loop-other.invariant in
    let sorted = c.args.sorted.now in
    let start = c.args.start in
    let txn = c.args.txn in
    let from = c.args.from in
    let place = c.loop-other.place in
    let pairs = up_to sorted start in
    let old = c.args.trail.now.reached in
    let cur = c.loop-other.trail.reached in
    let b = c.in-Some.other in
    let at = c.in-Some.ensures.some in
    let leads = c.leads_on.ensures in
    elim c.if-leads_on.branch [
      | then-leads_on w ↦
          let on = goes_on sorted start txn place b cur at (sym leads ∙ w.if-leads_on.true) in
          let one = next pairs old cur txn from on.0 (txn, b) on.1 on.2 in
          rw (w.trail-is, w.push.ensures.reached) (
            found_next pairs old cur txn from on.0 (txn, b) on.1 on.2 i.0 i.1,
            longer_next pairs old cur txn from on.0 (txn, b) on.1 on.2 i.1,
            covered_more sorted start txn place b cur (cur ++ one ∷ []) at (λ a m. member_longer cur (one ∷ []) a m) (λ low. pushed_node cur one) i.2,
            λ n p less found. i.3 n p (omega (arith, less)) found,
            omega (arith, w.push.ensures.capacity, i.4),
          )
      | else-leads_on w ↦
          rw w.trail-is (
            i.0,
            i.1,
            covered_more sorted start txn place b cur cur at (λ a m. m) (reached_before cur start b (sym leads ∙ w.if-leads_on.false)) i.2,
            λ n p less found. i.3 n p (omega (arith, less)) found,
            i.4,
          )
    ]

pub returns-clause-covers : goal.returns-clause-covers
returns-clause-covers c =
    let i = c.loop-other.invariant in
    covered c.args.sorted.now c.args.start c.args.txn c.loop-other.place c.loop-other.trail.reached c.requires.sorted c.in_default.ensures.none i.3 i.2
