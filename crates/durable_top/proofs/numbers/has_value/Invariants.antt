use Rattle.std.proofs.Common.{take}
use Rattle.durable_top.specs.Numbers.{HasValue}
use Rattle.durable_top.proofs.numbers.has_value.Given as goal

abbrev pub invariant-loop-change : goal.invariant-loop-change
invariant-loop-change l = HasValue (take l.change-index l.changes) → ⊥
