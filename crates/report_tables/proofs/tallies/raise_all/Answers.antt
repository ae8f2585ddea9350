use Rattle.std.proofs.Common.{◌≡◌, ◌≤◌, ℤ, ℕ, List, Option, None, Some, of_z, to_z, true, unwrap_or, is_some, length, arith, sym, ap, ◌∙◌, subst}
use Rattle.std.specs.Int.{w128}
use Rattle.std.proofs.lemmas.Bool.{false≢true}
use Rattle.std.proofs.lemmas.Int.{to_z-of_z}
use Rattle.txn_names.specs.Path.{label_eq}
use Rattle.txn_names.specs.Groups.{has}
use Rattle.report_tables.specs.inner.Tallied.{HaveRoom, Sums, at_group, by_key, raised}
use Rattle.report_tables.proofs.Tallying.{room_more, upto_first, upto_last, upto_more, upto_none}
use Rattle.report_tables.proofs.tallies.raise_all.Goals as goal
use Rattle.report_tables.proofs.tallies.raise_all.Goals.{in-Some, in_default}

-- one group is found
same_group : (o : Option (List ℕ)) (f g : List ℕ) → o ≡ Some f → o ≡ Some g → f ≡ g
same_group o f g a b = ap (λ x. unwrap_or x f) (sym a ∙ b)

no_group : (o : Option (List ℕ)) (g : List ℕ) → o ≡ None → o ≡ Some g → ⊥
no_group o g a b = false≢true (ap is_some (sym a ∙ b))

pub loop-place-init : goal.loop-place-init
loop-place-init c = (upto_first c.args.key.now _ c.args.groups.now.entries c.requires.named, omega arith)

pub raise-requires : goal.raise-requires
raise-requires c =
    let k = c.args.key.now in
    let f = c.in-Some.group in
    let d : ℤ = to_z w128 (of_z w128 c.args.difference) in
    let old : Sums = c.args.groups.now.entries in
    let room = subst (λ (e : ℤ). HaveRoom (λ g. has g k ≡ true) e old) (sym (to_z-of_z w128 c.args.difference c.ranges.difference)) c.requires.room in
    subst (λ (ss : Sums). HaveRoom (λ g. label_eq f g ≡ true) d ss) (sym c.loop-place.invariant.0)
    (room_more k d c.loop-place.place c.loop-place.invariant.1 f c.in-Some.ensures.some (λ g is. same_group c.group_before.result f g c.in-Some.is (c.group_before.ensures.all g is)) old room)

pub loop-place-preserved : goal.loop-place-preserved
loop-place-preserved c =
    let k = c.args.key.now in
    let n = c.loop-place.place in
    let d : ℤ = to_z w128 (of_z w128 c.args.difference) in
    let old : Sums = c.args.groups.now.entries in
    let now = c.loop-place.invariant.0 in
    let some = c.loop-place.invariant.1 in (
      elim c.match-group_before.branch [
        | in-Some w ↦
            ap (λ m. m.entries) w.groups-is ∙ w.raise.ensures ∙ ap (raised (at_group w.in-Some.group d)) now
            ∙ upto_more k d n some w.in-Some.group w.in-Some.ensures.some (λ g is. same_group c.group_before.result w.in-Some.group g w.in-Some.is (c.group_before.ensures.all g is)) old
        | in_default w ↦
            ap (λ m. m.entries) w.groups-is ∙ now ∙ upto_none k d n some old (λ g is. no_group c.group_before.result g w.in_default.is (c.group_before.ensures.all g is))
      ],
      omega arith,
    )

pub returns-clause-sums : goal.returns-clause-sums
returns-clause-sums c =
    let k = c.args.key.now in
    let d : ℤ = to_z w128 (of_z w128 c.args.difference) in
    let old : Sums = c.args.groups.now.entries in
    let over : length k ≤ c.loop-place.place = omega (arith, c.loop-place-test.false, ap (λ (bs : List ℕ). length bs) c.as_bytes-place-end.ensures.value) in
    c.loop-place.invariant.0 ∙ upto_last k d c.loop-place.place old over ∙ ap (λ (e : ℤ). raised (by_key k e) old) (to_z-of_z w128 c.args.difference c.ranges.difference)
