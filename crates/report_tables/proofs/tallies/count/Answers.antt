use Rattle.std.proofs.Common.{◌<◌, ◌≤◌, ◌+◌, ◌^◌, length, arith, sym, ap, ◌∙◌, subst}
use Rattle.std.specs.Map.{keys_of}
use Rattle.serial_spec.specs.Operations.{amount}
use Rattle.report_tables.specs.inner.Tallied.{AreNamed, Sums, by_key}
use Rattle.report_tables.specs.Valued.{Values}
use Rattle.report_tables.proofs.Counting.{Counted, count_last, count_more, count_room, fine_more}
use Rattle.report_tables.proofs.Summing.{entry_within}
use Rattle.report_tables.proofs.Tallying.{keys_raised, named_raised}
use Rattle.report_tables.proofs.tallies.count.Goals as goal

pub count_at-requires-clause-room : goal.count_at-requires-clause-room
count_at-requires-clause-room c k v at value =
    count_room c.args.values.now.entries c.loop-number.number k v c.loop-number.groups.entries (omega (arith, c.loop-number-test.true, c.len-number-end.ensures.small)) value c.loop-number.invariant.3 c.loop-number.invariant.2

pub loop-number-preserved : goal.loop-number-preserved
loop-number-preserved c =
    let es : Values = c.args.values.now.entries in
    let ss : Sums = c.loop-number.groups.entries in
    let n = c.loop-number.number in
    let e = entry_within es n (omega (arith, c.loop-number-test.true, c.len-number-end.ensures.len)) in
    let now = c.count_at.ensures.sums e.0 e.1 e.2 in
    let i = c.loop-number.invariant in (
      ap (λ (xs : Sums). keys_of xs) now ∙ keys_raised (by_key e.0 (amount e.1)) ss ∙ i.0,
      subst (λ (xs : Sums). AreNamed xs) (sym now) (named_raised (by_key e.0 (amount e.1)) ss i.1),
      subst (λ (xs : Sums). Counted es (n + 1) xs) (sym now) (count_more es n e.0 e.1 ss e.2 i.2),
      fine_more es n e.0 e.1 e.2 (c.count_at.ensures.fine e.0 e.1 e.2) i.3,
    )

pub returns-clause-counted : goal.returns-clause-counted
returns-clause-counted c =
    let es : Values = c.args.values.now.entries in
    let few : length es < 2 ^ 63 = omega (arith, c.len-number-end.ensures.len, c.len-number-end.ensures.small) in
    let over : length es ≤ c.loop-number.number = omega (arith, c.loop-number-test.false, c.len-number-end.ensures.len) in
    count_last es c.loop-number.number c.loop-number.groups.entries over few c.len-number-end.ensures.unique c.loop-number.invariant.3 c.loop-number.invariant.2
