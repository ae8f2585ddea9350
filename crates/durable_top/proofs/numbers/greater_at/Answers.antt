use Rattle.std.proofs.Common.{inr, rules, SFits, w64, ◌∙◌}
use Rattle.std.proofs.lemmas.Int.{to_z-of_z}
use Rattle.durable_top.proofs.Entries.{value_looked_up}
use Rattle.durable_top.proofs.numbers.greater_at.Goals as goal

pub returns-then-number-top-clause-met : goal.returns-then-number-top-clause-met
returns-then-number-top-clause-met c =
    let fits : SFits w64 c.unwrap.result.1.now = search rules in
    simp to_z-of_z (inr (c.unwrap.result.0.now, value_looked_up c.args.numbers.now.entries c.unwrap.result.0.now ∙ (rw c.unwrap.ensures at c.get_index.ensures.value)))
