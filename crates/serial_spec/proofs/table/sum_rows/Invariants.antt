use Rattle.std.proofs.Common.{◌≡◌, ◌≤◌, ◌++◌, ◌∷◌, [], ◌*◌, ◌^◌, ◌-◌, length, take, pos, ◌≤ℤ◌, neg_ℤ}
use Rattle.std.specs.List.{AllByRecursion}
use Rattle.serial_spec.specs.Places.{rank, sum_rows}
use Rattle.serial_spec.proofs.Ranges.{Fine}
use Rattle.serial_spec.proofs.table.sum_rows.Given as goal

abbrev pub invariant-loop-at : goal.invariant-loop-at
invariant-loop-at l =
    (l.sum ≡ sum_rows (take l.at l.rows.items) l.group)
    × AllByRecursion (Fine l.group) (take l.at l.rows.items)
    × (l.sum ≤ℤ pos (l.at * 2 ^ 63)) × (neg_ℤ (pos (l.at * 2 ^ 63)) ≤ℤ l.sum)
    × (rank l.rows.items (l.group ++ 46 ∷ []) ≤ l.at) × (l.at ≤ length l.rows.items)

abbrev pub decreases-loop-at : goal.decreases-loop-at
decreases-loop-at l = length l.rows.items - l.at
