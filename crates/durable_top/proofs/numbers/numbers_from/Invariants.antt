use Rattle.std.proofs.Common.{◌≡◌, take}
use Rattle.serial_spec.specs.Rows.{value_in}
use Rattle.durable_top.specs.Numbers.{numbers_in}
use Rattle.durable_top.proofs.numbers.numbers_from.Given as goal

abbrev pub invariant-loop-row : goal.invariant-loop-row
invariant-loop-row l = value_in l.numbers.entries ≡ value_in (numbers_in (take l.row-index l.rows))
