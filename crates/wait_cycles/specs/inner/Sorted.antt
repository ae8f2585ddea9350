-- Pairs by their first, and the numbers at which a search starts.
use Rattle.std.specs.Prelude.{◌≡◌, ◌<◌, ◌≤◌, ℕ, IsTrue, List, filter, nat_le, slice_get, Some}
use Rattle.wait_cycles.specs.Cycles.{Pairs, IsCycle, IsGreatest, waits_in}

-- none is less than one that stands before it
abbrev pub AreRising : List ℕ → Type 0
AreRising xs = (i j a b : ℕ) → i ≤ j → slice_get xs i ≡ Some a → slice_get xs j ≡ Some b → a ≤ b

-- no first is less than one that stands before it
abbrev pub AreSorted : Pairs → Type 0
AreSorted pairs = (i j : ℕ) (p q : ℕ × ℕ) → i ≤ j → slice_get pairs i ≡ Some p
    → slice_get pairs j ≡ Some q → p.0 ≤ q.0

-- the firsts before this place are less, and from it on they are not
abbrev pub ArePartedAt : Pairs → ℕ → ℕ → Type 0
ArePartedAt pairs a n = (i : ℕ) (p : ℕ × ℕ) → slice_get pairs i ≡ Some p → (i < n → p.0 < a)
    × (n ≤ i → a ≤ p.0)

-- one that is no greater waits for it
abbrev pub IsAwaited : Pairs → ℕ → Type 0
IsAwaited pairs b = (a : ℕ) × IsTrue (waits_in pairs a b) × (a ≤ b)

-- it is the greatest member of no cycle
abbrev pub IsNoGreatest : Pairs → ℕ → Type 0
IsNoGreatest pairs a = (xs : List ℕ) → IsCycle pairs xs → IsGreatest a xs → ⊥

-- the pairs that lead to nobody above this number
abbrev pub up_to : Pairs → ℕ → Pairs
up_to pairs start = filter (λ p. nat_le p.1 start) pairs
