-- Slots, and the numbers that give the order of what stands in them.
use Rattle.std.specs.Prelude.{◌≡◌, ◌<◌, ◌≤◌, ℕ, List, [], ◌∷◌, length, take, slice_get, ⊤}
use Rattle.std.specs.List.{AllByRecursion, filter_map}

-- what stands in the slots with these numbers, in this order
abbrev pub picked : {T : Type 0} → List T → List ℕ → List T
picked slots numbers = filter_map (slice_get slots) numbers

-- what stands in the slots with the first numbers. The others are those of free slots
abbrev pub members : {T : Type 0} → List T → List ℕ → ℕ → List T
members slots order len = picked slots (take len order)

-- no number stands twice
abbrev pub AreDistinct : List ℕ → Type 0
AreDistinct [] = ⊤
AreDistinct (n ∷ ns) = AllByRecursion (λ m. n ≡ m → ⊥) ns × AreDistinct ns

-- each of so many slots has one number in the order, and so many of these are of members
pub record IsKept (slots : ℕ) (order : List ℕ) (members : ℕ) : Type 0 where
  pub count : length order ≡ slots
  pub some : members ≤ slots
  pub within : AllByRecursion (λ n. n < slots) order
  pub once : AreDistinct order
