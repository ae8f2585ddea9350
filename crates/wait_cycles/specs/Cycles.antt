-- Pairs of numbers, the first of each waiting for the second, and the cycles among them.
use Rattle.std.specs.Prelude.{◌≤◌, ℕ, Bool, true, not, nat_eq, ◌&&◌, IsTrue, List, [], ◌∷◌}
use Rattle.std.specs.List.{list_any}

abbrev pub Pairs : Type 0
Pairs = List (ℕ × ℕ)

-- whether a waits for b
abbrev pub waits_in : Pairs → ℕ → ℕ → Bool
waits_in pairs a b = list_any (λ p. nat_eq p.0 a && nat_eq p.1 b) pairs

-- each waits for the next, a for the first of them and the last for b
abbrev pub WaitInTurn : Pairs → ℕ → List ℕ → ℕ → Type 0
WaitInTurn pairs a [] b = IsTrue (waits_in pairs a b)
WaitInTurn pairs a (x ∷ xs) b = IsTrue (waits_in pairs a x) × WaitInTurn pairs x xs b

abbrev pub is_member : ℕ → List ℕ → Bool
is_member a xs = list_any (nat_eq a) xs

abbrev pub is_distinct : List ℕ → Bool
is_distinct [] = true
is_distinct (a ∷ xs) = not (is_member a xs) && is_distinct xs

-- distinct numbers, each waiting for the next and the last for the first
abbrev pub IsCycle : Pairs → List ℕ → Type 0
IsCycle pairs [] = ⊥
IsCycle pairs (a ∷ xs) = IsTrue (is_distinct (a ∷ xs)) × WaitInTurn pairs a xs a

-- it is a member, and no member is greater
pub record IsGreatest (a : ℕ) (xs : List ℕ) : Type 0 where
  pub member : IsTrue (is_member a xs)
  pub others : (b : ℕ) → IsTrue (is_member b xs) → b ≤ a

-- a cycle through the greatest number that lies on any
pub record IsLastCycle (pairs : Pairs) (xs : List ℕ) : Type 0 where
  pub cycle : IsCycle pairs xs
  pub last : (ys : List ℕ) → IsCycle pairs ys → (b : ℕ) → IsTrue (is_member b ys) → (a : ℕ)
      → IsGreatest a xs → b ≤ a

-- it lies on a cycle, and no greater number lies on any
pub record IsLastOn (pairs : Pairs) (a : ℕ) : Type 0 where
  pub through : (xs : List ℕ) × IsCycle pairs xs × IsTrue (is_member a xs)
  pub last : (ys : List ℕ) → IsCycle pairs ys → (b : ℕ) → IsTrue (is_member b ys) → b ≤ a
