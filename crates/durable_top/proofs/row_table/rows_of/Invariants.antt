use Rattle.std.proofs.Common.{◌≡◌, take}
use Rattle.serial_spec.specs.Rows.{value_in}
use Rattle.durable_top.specs.Joined.{joined}
use Rattle.durable_top.proofs.row_table.rows_of.Given as goal

abbrev pub invariant-loop-place : goal.invariant-loop-place
invariant-loop-place l = l.rows.items ≡ joined (take l.place l.values.rows) (value_in l.numbers.rows)
