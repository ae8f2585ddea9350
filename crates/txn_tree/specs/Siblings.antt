-- Children and siblings by their numbers: functions of `names` alone. Who goes over the children of
-- t from the first one, each time to the next sibling, has been at every child with a smaller
-- number than the one that he is at.
use Rattle.std.specs.Prelude.{◌≡◌, ◌<◌, ◌≤◌, ℕ, Bool, false, IsTrue, IsFalse, [], slice_get, Option, Some, None}
use Rattle.txn_names.specs.Path.{Path, parent}
use Rattle.txn_tree.specs.States.{States, names}
use Rattle.txn_tree.specs.Numbered.{is_parent_of, is_under}

-- both have begun, and the first is the parent of the second
abbrev pub is_child_at : States → ℕ → ℕ → Bool
is_child_at tree t c = is_parent_of (slice_get (names tree) t) (slice_get (names tree) c)

-- there are both, and the second is a child of the first one's parent, which may be the root
abbrev pub is_sibling_of : Option Path → Option Path → Bool
is_sibling_of None u = false
is_sibling_of (Some t) u = is_parent_of (Some (parent t)) u

-- both have begun, and they have the same parent, which may be the root
abbrev pub is_sibling_at : States → ℕ → ℕ → Bool
is_sibling_at tree t u = is_sibling_of (slice_get (names tree) t) (slice_get (names tree) u)

-- the transaction with this number is top-level
abbrev pub is_top_at : States → ℕ → Bool
is_top_at tree n = is_parent_of (Some []) (slice_get (names tree) n)

-- the least number that passes, if there is one
abbrev pub IsFirst : (ℕ → Bool) → Option ℕ → Type 0
IsFirst passes None = (m : ℕ) → IsFalse (passes m)
IsFirst passes (Some c) = IsTrue (passes c) × ((m : ℕ) → m < c → IsFalse (passes m))

-- the greatest number that passes, if there is one
abbrev pub IsLast : (ℕ → Bool) → Option ℕ → Type 0
IsLast passes None = (m : ℕ) → IsFalse (passes m)
IsLast passes (Some c) = IsTrue (passes c) × ((m : ℕ) → c < m → IsFalse (passes m))

-- the least number past n that passes, if there is one
abbrev pub IsNext : (ℕ → Bool) → ℕ → Option ℕ → Type 0
IsNext passes n None = (m : ℕ) → n < m → IsFalse (passes m)
IsNext passes n (Some c) = (n < c) × IsTrue (passes c)
    × ((m : ℕ) → n < m → m < c → IsFalse (passes m))

-- whoever is below t, t itself left aside, is one child of t or below it, and below no other child
abbrev pub HasBranches : States → ℕ → Type 0
HasBranches tree t = (u : ℕ) → IsTrue (is_under tree t u) → (t ≡ u → ⊥)
    → (c : ℕ) × IsTrue (is_child_at tree t c) × IsTrue (is_under tree c u) × (c ≤ u)
    × ((d : ℕ) → IsTrue (is_child_at tree t d) → IsTrue (is_under tree d u) → d ≡ c)

-- m comes before the one that is looked at; all do once there is none
abbrev pub IsBefore : Option ℕ → ℕ → Type 0
IsBefore None m = Unit {0}
IsBefore (Some c) m = m < c
