-- The transactions that have begun, in order of beginning, each with its own state.
use Rattle.std.specs.Prelude.{◌≡◌, ◌≢◌, ◌≤◌, ℕ, Bool, true, false, if◌then◌else◌, All, List, [], ◌∷◌, length, slice_get, Some, unwrap_or}
use Rattle.std.specs.List.{IsDistinct}
use Rattle.std.specs.Map.{keys_of, values_of, lookup}
use Rattle.txn_names.specs.Path.{Path, path_eq}
use Rattle.txn_names.specs.Text.{IsName}
use Rattle.serial_spec.specs.Allowed.{most_transactions}
use Rattle.txn_tree.specs.declared.status.Status.{Status}
use Rattle.txn_tree.specs.declared.status.Status.TheVariants.{Absent, Live, Committed, Aborted}

abbrev pub States : Type 0
States = List (Path × Status)

-- who has begun, the first begun first
abbrev pub names : States → List Path
names tree = keys_of tree

-- the state by a transaction's own begin, commit and abort alone. The root, the empty path, is live
-- for ever
abbrev pub status_in : States → Path → Status
status_in tree [] = Live
status_in tree (l ∷ ls) = unwrap_or (lookup (path_eq (l ∷ ls)) tree) Absent

abbrev pub is_absent : Status → Bool
is_absent Absent = true
is_absent s = false

abbrev pub is_live : Status → Bool
is_live Live = true
is_live s = false

abbrev pub is_committed : Status → Bool
is_committed Committed = true
is_committed s = false

abbrev pub is_aborted : Status → Bool
is_aborted Aborted = true
is_aborted s = false

-- the transaction gets this state, and each other one keeps its own
abbrev pub GetsStatus : States → States → Path → Status → Type 0
GetsStatus old new t status =
    (u : Path) → status_in new u ≡ (if path_eq t u then status else status_in old u)

-- the same of the transaction with this number
abbrev pub GetsStatusAt : States → States → ℕ → Status → Type 0
GetsStatusAt old new n status =
    (t : Path) → slice_get (names old) n ≡ Some t → GetsStatus old new t status

-- what holds of the states in every tree
pub record IsTree (tree : States) : Type 0 where
  pub named : All IsName (names tree)
  pub distinct : IsDistinct path_eq (names tree)
  pub begun : All (λ s. s ≢ Absent) (values_of tree)
  pub few : length tree ≤ most_transactions
