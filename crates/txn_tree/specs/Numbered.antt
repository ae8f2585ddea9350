-- What is asked of a transaction by its number: functions of `names` and `status_in` alone.
use Rattle.std.specs.Prelude.{◌≤◌, ◌↔◌, ℕ, Bool, false, nat_lt, length, IsTrue, IsFalse, slice_get, Option, Some, None}
use Rattle.txn_names.specs.Path.{Path, path_eq, is_front, parent}
use Rattle.txn_tree.specs.declared.status.Status.{Status}
use Rattle.txn_tree.specs.declared.status.Status.TheVariants.{Absent}
use Rattle.txn_tree.specs.States.{States, names, status_in}
use Rattle.txn_tree.specs.Asked.{ended_by_abort, is_absent_in, is_active_in, is_orphan_in, live_children_of, top_aborted_in}

-- there are both names, and the first is the second or an ancestor of it
abbrev pub is_front_of : Option Path → Option Path → Bool
is_front_of (Some a) (Some b) = is_front a b
is_front_of a b = false

-- both have begun, and u is t or below it
abbrev pub is_under : States → ℕ → ℕ → Bool
is_under tree t u = is_front_of (slice_get (names tree) t) (slice_get (names tree) u)

abbrev pub status_named : States → Option Path → Status
status_named tree None = Absent
status_named tree (Some t) = status_in tree t

-- the state of the transaction with this number, Absent if nobody has it
abbrev pub status_at : States → ℕ → Status
status_at tree n = status_named tree (slice_get (names tree) n)

abbrev pub is_active_named : States → Option Path → Bool
is_active_named tree None = false
is_active_named tree (Some t) = is_active_in tree t

-- the transaction with this number is live, and no orphan
abbrev pub is_active_at : States → ℕ → Bool
is_active_at tree n = is_active_named tree (slice_get (names tree) n)

abbrev pub top_aborted_named : States → Option Path → Option Path
top_aborted_named tree None = None
top_aborted_named tree (Some t) = top_aborted_in tree t

-- the topmost aborted one among the transaction with this number and its ancestors
abbrev pub top_aborted_at : States → ℕ → Option Path
top_aborted_at tree n = top_aborted_named tree (slice_get (names tree) n)

-- there is somebody, and that is no top-level transaction
abbrev pub has_parent : Option Path → Bool
has_parent None = false
has_parent (Some t) = nat_lt 1 (length t)

-- there are both, and the first is the parent of the second
abbrev pub is_parent_of : Option Path → Option Path → Bool
is_parent_of (Some u) (Some t) = path_eq (parent t) u
is_parent_of u t = false

abbrev pub live_children_named : States → Option Path → ℕ
live_children_named tree None = 0
live_children_named tree (Some t) = live_children_of tree t

-- how many children of the transaction with this number are live
abbrev pub live_children_at : States → ℕ → ℕ
live_children_at tree n = live_children_named tree (slice_get (names tree) n)

abbrev pub is_below_orphan_named : States → Option Path → Bool
is_below_orphan_named tree None = false
is_below_orphan_named tree (Some t) = is_orphan_in tree (parent t)

-- the parent of the transaction with this number is an orphan
abbrev pub is_below_orphan : States → ℕ → Bool
is_below_orphan tree n = is_below_orphan_named tree (slice_get (names tree) n)

abbrev pub ended_named : States → Option Path → ℕ
ended_named tree None = 0
ended_named tree (Some t) = ended_by_abort tree t

-- how many transactions an abort of the one with this number ends
abbrev pub ended_at : States → ℕ → ℕ
ended_at tree n = ended_named tree (slice_get (names tree) n)

-- the parent of each transaction that has begun has begun before it, or is the root
abbrev pub IsClosed : States → Type 0
IsClosed tree = (t : Path) → IsFalse (is_absent_in tree t) → IsFalse (is_absent_in tree (parent t))

-- the parent of whoever is live and no orphan is so too
abbrev pub IsUpward : States → Type 0
IsUpward tree = (t : Path) → IsTrue (is_active_in tree t) → IsTrue (is_active_in tree (parent t))

-- of two that are a transaction or above it, the deeper one has the greater number
abbrev pub RisesDown : States → ℕ → Type 0
RisesDown tree u = (a b : ℕ) → IsTrue (is_under tree a u) → IsTrue (is_under tree b u)
    → (a ≤ b) ↔ IsTrue (is_under tree a b)
