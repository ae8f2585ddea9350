use Rattle.std.proofs.Common.{All, take}
use Rattle.std.specs.Float.{NotNan}
use Rattle.sqlite_value.specs.Order.{number}
use Rattle.row_store.proofs.typed.has_no_float.Given as goal

abbrev pub invariant-loop-at : goal.invariant-loop-at
invariant-loop-at l = All (λ v. NotNan (number v)) (take l.at l.row)
