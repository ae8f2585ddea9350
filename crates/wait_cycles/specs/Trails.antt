-- Those that are reached from a start, as they were found.
use Rattle.std.specs.Prelude.{◌≡◌, ◌<◌, ◌≤◌, ◌+◌, ℕ, not, IsTrue, List, ◌++◌, length, map, filter, slice_get, Option, Some, None}
use Rattle.wait_cycles.specs.declared.trail.Reached.{Reached}
use Rattle.wait_cycles.specs.Cycles.{Pairs, IsCycle, waits_in, is_member, is_distinct}

-- those that were reached, in the order in which they were found, and how many have room
pub record Reaching : Type 0 where
  pub reached : List Reached
  pub capacity : ℕ

-- as they are kept: under each number the place of the one before it
abbrev pub reached_in : List (ℕ × Option ℕ) → List Reached
reached_in entries = map (λ e. record { txn = e.0; from = e.1 }) entries

abbrev pub nodes : List Reached → List ℕ
nodes trail = map (λ r. r.txn) trail

-- the one at this place, or the start where there is no place, and it stands before
abbrev pub IsAt : ℕ → List ℕ → ℕ → Option ℕ → ℕ → Type 0
IsAt start ns i None a = start ≡ a
IsAt start ns i (Some j) a = (j < i) × (slice_get ns j ≡ Some a)

-- each waits for the one that stands after it on its way
abbrev pub ComesFrom : Pairs → ℕ → List ℕ → ℕ → Reached → Type 0
ComesFrom pairs start ns i r = (a : ℕ) × IsAt start ns i r.from a × IsTrue (waits_in pairs a r.txn)

-- the one before each stands before it
abbrev pub AreBackward : List Reached → Type 0
AreBackward trail = (i j : ℕ) (r : Reached) → slice_get trail i ≡ Some r → r.from ≡ Some j → j < i

-- each once, and each comes from one that stands before it
pub record IsFound (pairs : Pairs) (start : ℕ) (trail : List Reached) : Type 0 where
  pub distinct : IsTrue (is_distinct (nodes trail))
  pub sound : (i : ℕ) (r : Reached) → slice_get trail i ≡ Some r
      → ComesFrom pairs start (nodes trail) i r

-- those that were found are so still, and so are those to which the one at this place leads
abbrev pub KeepsFound : Pairs → List Reached → List Reached → Option ℕ → ℕ → Type 0
KeepsFound pairs old new from txn = (first : ℕ) → IsFound pairs first old
    → IsAt first (nodes old) (length old) from txn → IsFound pairs first new

-- all that a waits for are among them
abbrev pub Covers : Pairs → List Reached → ℕ → Type 0
Covers pairs trail a = (b : ℕ) → IsTrue (waits_in pairs a b) → IsTrue (is_member b (nodes trail))

-- all that are reached
pub record IsTrail (pairs : Pairs) (start : ℕ) (trail : List Reached) : Type 0 where
  pub found : IsFound pairs start trail
  pub first : Covers pairs trail start
  pub all : (a : ℕ) → IsTrue (is_member a (nodes trail)) → Covers pairs trail a

-- pairs that lead to one that is not reached
abbrev pub open_pairs : Pairs → List Reached → ℕ
open_pairs pairs trail = length (filter (λ p. not (is_member p.1 (nodes trail))) pairs)

-- more have been found, each by a pair that led to nobody yet
pub record IsLonger (pairs : Pairs) (old new : List Reached) : Type 0 where
  pub more : (rest : List Reached) × (new ≡ old ++ rest)
  pub fewer : open_pairs pairs new + length new ≤ open_pairs pairs old + length old

-- the start is among those that were reached from it, and no greater number lies on a cycle
pub record IsLastReached (pairs : Pairs) (start : ℕ) (trail : List Reached) : Type 0 where
  pub found : IsFound pairs start trail
  pub again : IsTrue (is_member start (nodes trail))
  pub last : (ys : List ℕ) → IsCycle pairs ys → (b : ℕ) → IsTrue (is_member b ys) → b ≤ start
