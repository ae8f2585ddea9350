-- First children and next siblings, as they are kept, and that they are those of the tree.
use Rattle.std.specs.Prelude.{◌≡◌, ◌≤◌, ◌<◌, ◌^◌, ℕ, suc, ◌==◌, if◌then◌else◌, List, [], ◌∷◌, drop, length, nat_eq, slice_get, Option, Some, None}
use Rattle.indexmap.specs.IndexMap.{get}
use Rattle.report_trees.specs.declared.links.Links.{Links}
use Rattle.report_trees.specs.declared.telling.Told.{Told}

-- the first one from the number k on whose parent has the place p
abbrev pub first_at : ℕ → ℕ → List ℕ → Option ℕ
first_at k p [] = None
first_at k p (q ∷ qs) = if q == p then Some k else first_at (suc k) p qs

-- of those from the number n on
pub record IsLinkedFrom (places : List ℕ) (n : ℕ) (x : Links) : Type 0 where
  pub first : (p : ℕ) → get nat_eq x.first p ≡ first_at n p (drop n places)
  pub next : (i p : ℕ) → n ≤ i → slice_get places i ≡ Some p
      → get nat_eq x.next i ≡ Some (first_at (suc i) p (drop (suc i) places))

abbrev pub IsLinked : List ℕ → Links → Type 0
IsLinked places x = IsLinkedFrom places 0 x

-- this is told of each of so many transactions
pub record AreTold (tells : ℕ → Told) (count : ℕ) (told : List Told) : Type 0 where
  pub few : count < 2 ^ 63
  pub each : (i : ℕ) → i < count → slice_get told i ≡ Some (tells i)
