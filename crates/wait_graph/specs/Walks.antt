-- The walk from one that waits to those for whom it waits, and on from each of them.
use Rattle.std.specs.Prelude.{◌≡◌, ◌≤◌, ◌⊎◌, ◌+◌, ◌*◌, ℕ, Bool, false, not, IsTrue, List, length, slice_get, slice_index_or, Some, count_by, vec_len}
use Rattle.std.specs.Global.{Vec}
use Rattle.wait_cycles.specs.Cycles.{Pairs, IsCycle, is_member, waits_in}
use Rattle.wait_cycles.specs.declared.waits.Wait.{Wait}

-- no cycle goes through it
abbrev pub IsOnNoCycle : Pairs → ℕ → Type 0
IsOnNoCycle edges a = (xs : List ℕ) → IsCycle edges xs → IsTrue (is_member a xs) → ⊥

-- a lies on a cycle, and no greater number lies on any cycle through b
pub record IsLastThrough (edges : Pairs) (b a : ℕ) : Type 0 where
  pub through : (xs : List ℕ) × IsCycle edges xs × IsTrue (is_member a xs)
  pub last : (ys : List ℕ) → IsCycle edges ys → IsTrue (is_member b ys) → (c : ℕ)
      → IsTrue (is_member c ys) → c ≤ a

-- of all edges those are listed that lie on cycles through a, and none but edges
pub record IsWayOf (all listed : Pairs) (a : ℕ) : Type 0 where
  pub whole : (xs : List ℕ) → IsCycle all xs → IsTrue (is_member a xs) → IsCycle listed xs
  pub sound : (xs : List ℕ) → IsCycle listed xs → IsCycle all xs

-- what stood at a place still does
abbrev pub IsLonger : Pairs → Pairs → Type 0
IsLonger old new = (i : ℕ) (p : ℕ × ℕ) → slice_get old i ≡ Some p → slice_get new i ≡ Some p

-- what came to the old pairs is of all
abbrev pub HasMoreOf : Pairs → Pairs → Pairs → Type 0
HasMoreOf all old new = (a b : ℕ) → IsTrue (waits_in new a b) → IsTrue (waits_in old a b)
    ⊎ IsTrue (waits_in all a b)

-- whomever a waits for, the pair of both is listed
abbrev pub AreListed : Pairs → Pairs → ℕ → Type 0
AreListed all listed a = (b : ℕ) → IsTrue (waits_in all a b) → IsTrue (waits_in listed a b)

-- so it is with each that waits at a place that is marked
abbrev pub AreGoneOn : Pairs → List Wait → List Bool → Pairs → Type 0
AreGoneOn all waits marks listed =
    (place : ℕ) (w : Wait) → IsTrue (slice_index_or marks place false)
    → slice_get waits place ≡ Some w → AreListed all listed w.txn

-- where it was so before with each that was marked, it is so with each that is, and with this one
abbrev pub GoesOnFrom : List Wait → ℕ → Vec Bool → Vec (ℕ × ℕ) → Vec Bool → Vec (ℕ × ℕ) → Pairs
    → Type 0
GoesOnFrom waits a marks listed new_marks new_listed all =
    AreGoneOn all waits marks.items listed.items
    → AreGoneOn all waits new_marks.items new_listed.items × AreListed all new_listed.items a

-- how many places are not marked
abbrev pub unmarked : List Bool → ℕ
unmarked marks = count_by not marks

-- how many pairs there may be once each place is marked
abbrev pub most_listed : Vec (ℕ × ℕ) → Vec Bool → List Wait → ℕ
most_listed listed marks waits = vec_len listed + unmarked marks.items * length waits
