use Rattle.std.proofs.Common.{take}
use Rattle.serial_spec.specs.Rows.{value_in}
use Rattle.durable_top.specs.Numbers.{IsKept}
use Rattle.durable_top.proofs.numbers.is_changed.Given as goal

abbrev pub invariant-loop-change : goal.invariant-loop-change
invariant-loop-change l = IsKept (value_in l.numbers.entries) l.number (take l.change-index l.changes)
