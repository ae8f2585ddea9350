use Rattle.std.proofs.Common.{◌≡◌, ◌-◌, ◌≤◌, ◌<◌, ℕ, ℤ, List, length, true, false, get_or}
use Rattle.serial_spec.specs.Places.{is_below}
use Rattle.serial_spec.proofs.table.place_of.Given as goal

abbrev pub invariant-loop-low : goal.invariant-loop-low
invariant-loop-low l =
    (l.low ≤ l.high) × (l.high ≤ length l.rows.items)
    × ((j : ℕ) (d : List ℕ × ℤ) → j < l.low → is_below (get_or l.rows.items j d).0 l.key ≡ true)
    × ((j : ℕ) (d : List ℕ × ℤ) → l.high ≤ j → j < length l.rows.items → is_below (get_or l.rows.items j d).0 l.key ≡ false)

abbrev pub decreases-loop-low : goal.decreases-loop-low
decreases-loop-low l = l.high - l.low
