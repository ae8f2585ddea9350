-- Cycles among numbers of transactions, and the cycles of waits that the definitions speak of by
-- names.
use Rattle.std.specs.Prelude.{◌≡◌, ℕ, IsTrue, List, slice_get, Some}
use Rattle.serial_spec.specs.History.{Name, History}
use Rattle.serial_spec.specs.Waits.{IsVictim, OnCycle, Quiet, number, waits_for}
use Rattle.wait_cycles.specs.Cycles.{Pairs, IsCycle, IsLastOn, is_member, waits_in}

-- The names stand at the places that are their numbers, and the pairs are those of names of which
-- the first waits for the second.
pub record AreWaits (h : History) (names : List Name) (pairs : Pairs) : Type 0 where
  pub numbered : (a : ℕ) (t : Name) → slice_get names a ≡ Some t → number h t ≡ a
  pub sound : (a b : ℕ) → IsTrue (waits_in pairs a b)
      → (t : Name) × (u : Name) × (slice_get names a ≡ Some t) × (slice_get names b ≡ Some u)
      × IsTrue (waits_for h t u)
  pub whole : (t u : Name) → IsTrue (waits_for h t u)
      → (a : ℕ) × (b : ℕ) × (slice_get names a ≡ Some t) × (slice_get names b ≡ Some u)
      × IsTrue (waits_in pairs a b)

-- Whoever lies on a cycle of names lies on one of numbers, and the other way round. So where no
-- cycle of numbers is, no cycle of names is, and the greatest number on any cycle is that of the
-- victim.
pub record Agree (h : History) (names : List Name) (pairs : Pairs) : Type 0 where
  pub by_numbers : (xs : List ℕ) → IsCycle pairs xs → (a : ℕ) → IsTrue (is_member a xs)
      → (t : Name) × (slice_get names a ≡ Some t) × OnCycle h t
  pub by_names : (t : Name) → OnCycle h t → (xs : List ℕ) × IsCycle pairs xs
      × IsTrue (is_member (number h t) xs)
  pub quiet : ((xs : List ℕ) → IsCycle pairs xs → ⊥) → Quiet h
  pub victim : (a : ℕ) → IsLastOn pairs a → (t : Name) × (slice_get names a ≡ Some t) × IsVictim h t

abbrev pub CyclesAgree : Type 0
CyclesAgree = (h : History) (names : List Name) (pairs : Pairs) → AreWaits h names pairs
    → Agree h names pairs
