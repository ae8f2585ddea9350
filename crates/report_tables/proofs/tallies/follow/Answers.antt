use Rattle.std.proofs.Common.{◌≡◌, ◌<◌, ℕ, FitsSigned, length, to_z, of_z, rules, true≢false, arith, sym, ap, ◌∙◌, subst}
use Rattle.std.specs.Int.{w128}
use Rattle.std.specs.Map.{keys_of}
use Rattle.std.proofs.lemmas.Int.{to_z-of_z}
use Rattle.indexmap.specs.IndexMap.{set_value_at}
use Rattle.report_tables.specs.inner.Tallied.{AreTallied, Sums, by_key}
use Rattle.report_tables.specs.Valued.{Values}
use Rattle.report_tables.proofs.Counting.{set_past, set_room, tallied_set}
use Rattle.report_tables.proofs.Tallying.{keys_raised}
use Rattle.report_tables.proofs.tallies.follow.Goals as goal

above : (n : ℕ) → (n ≡ 0 → ⊥) → 0 < n
above n other = omega (arith, other)

pub raise_all-requires-clause-room : goal.raise_all-requires-clause-room
raise_all-requires-clause-room c =
    let es : Values = c.args.values.now.entries in
    let ss : Sums = c.args.groups.now.entries in
    let fits : FitsSigned w128 c.difference.result = search rules in
    let own = to_z-of_z w128 c.difference.result fits in
    let some = above (length ss) (λ none. true≢false (sym (c.is_empty.ensures.1 none) ∙ c.if-is_empty.false)) in
    set_room es ss c.args.number c.in-Some.key.now c.in-Some.before.now c.args.value (to_z w128 (of_z w128 c.difference.result)) (c.requires.counted some)
    (sym c.in-Some.ensures.entry) c.difference.ensures.after (own ∙ c.difference.ensures.difference)

pub returns-in-Some-clause-keys : goal.returns-in-Some-clause-keys
returns-in-Some-clause-keys c = ap (λ (ss : Sums). keys_of ss) c.raise_all.ensures.sums ∙ keys_raised (by_key c.in-Some.key.now (to_z w128 (of_z w128 c.difference.result))) c.args.groups.now.entries

pub returns-in-Some-clause-tallied : goal.returns-in-Some-clause-tallied
returns-in-Some-clause-tallied c =
    let es : Values = c.args.values.now.entries in
    let fits : FitsSigned w128 c.difference.result = search rules in
    let own = to_z-of_z w128 c.difference.result fits in
    subst (λ (ss : Sums). AreTallied (set_value_at es c.args.number c.args.value) ss) (sym c.raise_all.ensures.sums)
    (tallied_set es c.args.groups.now.entries c.args.number c.in-Some.key.now c.in-Some.before.now c.args.value (to_z w128 (of_z w128 c.difference.result)) c.requires
    (sym c.in-Some.ensures.entry) c.difference.ensures.after (own ∙ c.difference.ensures.difference))

pub returns-in_default-clause-tallied : goal.returns-in_default-clause-tallied
returns-in_default-clause-tallied c =
    let es : Values = c.args.values.now.entries in
    subst (λ (xs : Values). AreTallied xs c.args.groups.now.entries) (set_past es c.args.number c.args.value (sym c.in_default.ensures.entry)) c.requires
