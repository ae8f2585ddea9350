use Rattle.std.proofs.Common.{◌≡◌, ◌-◌, ◌≤◌, ◌<◌, ℕ, length, true, false, get_or, []}
use Rattle.row_store.specs.inner.Passes.{passes}
use Rattle.row_store.proofs.probe.Probe.search.Given as goal

abbrev pub invariant-loop-low : goal.invariant-loop-low
invariant-loop-low l =
    (l.low ≤ l.high) × (l.high ≤ length l.rows.items)
    × ((k : ℕ) → k < l.low → passes l.self (get_or l.rows.items k []) ≡ true)
    × ((k : ℕ) → l.high ≤ k → k < length l.rows.items → passes l.self (get_or l.rows.items k []) ≡ false)
    × (l.low < l.high → (l.low ≤ l.next) × (l.next < l.high))

abbrev pub decreases-loop-low : goal.decreases-loop-low
decreases-loop-low l = l.high - l.low
