use Rattle.std.proofs.Common.{◌≡◌, ◌≤◌, ◌+◌, take, length}
use Rattle.indexmap.specs.IndexMap.{spare}
use Rattle.serial_spec.specs.Rows.{value_in}
use Rattle.durable_top.specs.Numbers.{renumbered}
use Rattle.durable_top.proofs.numbers.renumber.Given as goal

abbrev pub invariant-loop-change : goal.invariant-loop-change
invariant-loop-change l = (length l.changes ≤ spare l.numbers + l.change-index) × (value_in l.numbers.entries ≡ renumbered l.number (take l.change-index l.changes) (value_in l.initial.numbers.entries))
