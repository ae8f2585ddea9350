use Rattle.std.proofs.Common.{sym, ◌∙◌}
use Rattle.durable_top.proofs.Entries.{value_looked_up}
use Rattle.durable_top.proofs.numbers.number_in.Goals as goal

pub returns : goal.returns
returns c = c.copied.ensures ∙ c.get.ensures.value ∙ sym (value_looked_up c.args.numbers.now.entries c.args.key.now)
