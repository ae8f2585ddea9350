-- What is asked of a transaction: functions of `names` and `status_in` alone.
use Rattle.std.specs.Prelude.{◌≡◌, ℕ, ◌==◌, Bool, false, not, ◌&&◌, IsFalse, [], count_by, slice_get, Option, Some, None, is_some}
use Rattle.txn_names.specs.Path.{Path, path_eq, is_front, parent, top_of}
use Rattle.txn_tree.specs.States.{States, names, status_in, is_absent, is_live, is_committed, is_aborted}

abbrev pub is_absent_in : States → Path → Bool
is_absent_in tree t = is_absent (status_in tree t)

abbrev pub is_live_in : States → Path → Bool
is_live_in tree t = is_live (status_in tree t)

abbrev pub has_committed_in : States → Path → Bool
has_committed_in tree t = is_committed (status_in tree t)

abbrev pub has_aborted_in : States → Path → Bool
has_aborted_in tree t = is_aborted (status_in tree t)

-- the topmost aborted one among t and its ancestors
abbrev pub top_aborted_in : States → Path → Option Path
top_aborted_in tree t = top_of (has_aborted_in tree) t

-- an orphan has an aborted ancestor, itself included
abbrev pub is_orphan_in : States → Path → Bool
is_orphan_in tree t = is_some (top_aborted_in tree t)

abbrev pub is_live_child_in : States → Path → Path → Bool
is_live_child_in tree t u = path_eq (parent u) t && is_live_in tree u

-- how many children of t are live
abbrev pub live_children_of : States → Path → ℕ
live_children_of tree t = count_by (is_live_child_in tree t) (names tree)

-- live, and no orphan
abbrev pub is_active_in : States → Path → Bool
is_active_in tree u = is_live_in tree u && not (is_orphan_in tree u)

-- how many transactions an abort of t ends: itself and those below it that were active
abbrev pub ended_by_abort : States → Path → ℕ
ended_by_abort tree t = count_by (λ u. is_front t u && is_active_in tree u) (names tree)

-- whether there is a name, and it is t
abbrev pub is_name : Option Path → Path → Bool
is_name None t = false
is_name (Some u) t = path_eq t u

-- n is the number of t, and of nobody else
abbrev pub IsNumberOf : States → Path → ℕ → Type 0
IsNumberOf tree t n = (m : ℕ) → (n == m) ≡ is_name (slice_get (names tree) m) t

-- no number is the root's
abbrev pub IsRootless : States → Type 0
IsRootless tree = (m : ℕ) → IsFalse (is_name (slice_get (names tree) m) [])
