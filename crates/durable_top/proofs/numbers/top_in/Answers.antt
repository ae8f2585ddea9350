use Rattle.std.proofs.Common.{◌≡◌, ◌⊎◌, ◌<◌, length, sym, ◌≤ℤ◌, pos, suc, ℕ, ◌+◌, List, Some, inl, inr, rules, arith, subst, take, SFits, w64}
use Rattle.std.specs.List.{AllByRecursion}
use Rattle.std.proofs.lemmas.Int.{to_z-of_z, ints}
use Rattle.serial_spec.specs.Rows.{Rows, value_in}
use Rattle.durable_top.proofs.Greatest.{bounds_more}
use Rattle.durable_top.proofs.numbers.top_in.Goals as goal

pub loop-place-preserved : goal.loop-place-preserved
loop-place-preserved c =
    let es : Rows = c.args.numbers.now.entries in
    let fits : SFits w64 c.greater_at-top.result = search rules in
    let was = c.loop-place.invariant in
    let least = was.least in
    let above = c.greater_at-top.ensures.least in
    let next : suc c.loop-place.place ≡ c.loop-place.place + 1 = omega arith in
    let within : c.loop-place.place < length es = omega (arith, c.len-place-end.ensures.len, c.loop-place-test.true) in
    let bounds = bounds_more es c.loop-place.place _ c.greater_at-top.result within was.bounds above c.greater_at-top.ensures.bound in
    simp to_z-of_z (record {
      least = omega (arith, ints);
      bounds = subst (λ n. AllByRecursion (λ r. r.1 ≤ℤ c.greater_at-top.result) (take n es)) next bounds;
      met = elim c.greater_at-top.ensures.met [ inl same ↦ subst (λ n. (n ≡ pos 0) ⊎ ((k : List ℕ) × (value_in es k ≡ Some n))) (sym same) was.met | inr it ↦ inr it ];
    })
