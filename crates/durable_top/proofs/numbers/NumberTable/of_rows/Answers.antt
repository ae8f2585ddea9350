use Rattle.std.proofs.Common.{◌∙◌}
use Rattle.durable_top.proofs.Numbering.{numbers_in_rows}
use Rattle.durable_top.proofs.numbers.NumberTable.of_rows.Goals as goal

pub returns : goal.returns
returns c = c.in_ok-numbers.ensures ∙ numbers_in_rows c.args.rows.now
