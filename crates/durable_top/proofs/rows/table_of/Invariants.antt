use Rattle.std.proofs.Common.{◌≡◌, take}
use Rattle.serial_spec.specs.Rows.{value_in}
use Rattle.durable_top.specs.Store.{plain}
use Rattle.durable_top.proofs.rows.table_of.Given as goal

abbrev pub invariant-loop-row : goal.invariant-loop-row
invariant-loop-row l = value_in l.table.rows ≡ value_in (plain (take l.row-index l.rows))
