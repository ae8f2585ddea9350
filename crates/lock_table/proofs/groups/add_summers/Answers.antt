use Rattle.std.proofs.Common.{◌≡◌, ◌≤◌, [], false, length, IsOk, List, ℕ, subst, ap, ◌∙◌, rules}
use Rattle.serial_spec.specs.declared.operation.Kind.TheVariants.{Write}
use Rattle.lock_table.specs.Blocking.{blockers_in, is_blocked_in}
use Rattle.lock_table.specs.Targeted.{IsAmong, IsJoined}
use Rattle.lock_table.proofs.Bare.{none_joined}
use Rattle.lock_table.proofs.Blockers.{no_blockers}
use Rattle.lock_table.proofs.Summers.{all_joined, none_more, one_more}
use Rattle.lock_table.proofs.groups.add_summers.Goals as goal
use Rattle.lock_table.proofs.groups.add_summers.Goals.{in-Some+in_ok-more+in_ok-add_all, in_default}

pub returns-in_err-add_all-clause-succeeds : goal.returns-in_err-add_all-clause-succeeds
returns-in_err-add_all-clause-succeeds c = λ none.
    let sums = c.args.sums.now in
    let free : is_blocked_in c.args.tree.now sums c.args.txn c.as_key.result Write ≡ false =
    ap (λ (k : List ℕ). is_blocked_in c.args.tree.now sums c.args.txn k Write) c.as_key.ensures.value ∙ none c.in-Some.group c.in-Some.ensures.some.0 c.in-Some.ensures.some.1 in
    let nobody : c.as_slice.result.now ≡ [] = c.as_slice.ensures.value ∙ c.in_ok-more.ensures.found ∙ no_blockers c.args.tree.now sums c.args.txn c.as_key.result Write free in
    let ok : IsOk c.add_all.result = c.add_all.ensures.succeeds nobody in
    search rules

pub loop-place-preserved : goal.loop-place-preserved
loop-place-preserved c =
    let tree = c.args.tree.now in
    let sums = c.args.sums.now in
    let old = c.args.found.now.items in
    let now = c.loop-place.found.items in
    let n = c.loop-place.place in
    let i = c.loop-place.invariant in
    elim c.match-group_before.branch [
      | in-Some+in_ok-more+in_ok-add_all w ↦
          let g = w.in-Some.group in
          let some = w.in-Some.ensures.some in
          let same : w.as_slice.result.now ≡ blockers_in tree sums c.args.txn g Write =
          w.as_slice.ensures.value ∙ w.in_ok-more.ensures.found ∙ ap (λ (k : List ℕ). blockers_in tree sums c.args.txn k Write) w.as_key.ensures.value in
          let more : IsJoined now (IsAmong (blockers_in tree sums c.args.txn g Write)) w.add_all.new.numbers.items =
          subst (λ (xs : List ℕ). IsJoined now (IsAmong xs) w.add_all.new.numbers.items) same w.in_ok-add_all.ensures.ok in
          rw w.found-is (record {
            rising = w.add_all.ensures.rising;
            joined = one_more tree sums c.args.txn c.args.key.now n old now i.joined g w.add_all.new.numbers.items some.0 some.1 some.2 more;
          })
      | in_default w ↦ rw w.found-is (record {
        rising = i.rising;
        joined = none_more tree sums c.args.txn c.args.key.now n old now i.joined (λ f there some is. w.in_default.not-Some f (c.group_before.ensures.all f (there, some, is)));
      })
    ]

pub returns-clause-ok : goal.returns-clause-ok
returns-clause-ok c =
    let far : length c.args.key.now ≤ c.loop-place.place = search rules in
    all_joined c.args.tree.now c.args.sums.now c.args.txn c.args.key.now c.loop-place.place c.args.found.now.items c.loop-place.found.items c.loop-place.invariant.joined far

pub returns-then-is_empty-clause-ok : goal.returns-then-is_empty-clause-ok
returns-then-is_empty-clause-ok c = none_joined c.args.tree.now c.args.sums.now c.args.txn c.args.key.now (c.is_empty.ensures.0 c.if-is_empty.true) c.args.found.now.items
