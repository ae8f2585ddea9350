use Rattle.std.proofs.Common.{◌∙◌}
use Rattle.serial_spec.specs.Rows.{value_in}
use Rattle.durable_top.proofs.Numbering.{none_joined}
use Rattle.durable_top.proofs.row_table.RowTable.rows.Goals as goal

pub returns-clause-none : goal.returns-clause-none
returns-clause-none c = λ none.
    c.rows_of.ensures.none
    (none_joined c.self.inside.values.rows (value_in c.self.inside.numbers.rows)
    (c.self.view_is ∙ none))
