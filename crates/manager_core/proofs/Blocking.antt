-- Whether some transaction blocks an access, found among the names in order of beginning.
use Rattle.std.proofs.Common.{◌≡◌, ℕ, ◌≤◌, Bool, length, take, ap, ◌∙◌, arith}
use Rattle.std.specs.List.{list_any}
use Rattle.std.proofs.lemmas.List.{take_all}
use Rattle.std.proofs.lemmas.Map.Entries.{length-keys_of}
use Rattle.txn_tree.specs.States.{States, names}
use Rattle.serial_spec.specs.History.{Name, History, begun}
use Rattle.manager_core.specs.Kept.{IsTreeOf}
use Rattle.txn_history.proofs.Exports.{any_reversed}

-- whoever passes among the names in order of beginning has begun, and the other way about
pub any_named : (p : Name → Bool) (h : History) (states : States) → IsTreeOf h states → list_any p (names states) ≡ list_any p (begun h)
any_named p h states is = ap (list_any p) is.begun ∙ any_reversed p (begun h)

-- where all names have been gone through
pub all_named : (p : Name → Bool) (states : States) (i : ℕ) → length states ≤ i → list_any p (take i (names states)) ≡ list_any p (names states)
all_named p states i end = ap (list_any p) (take_all i (names states) (omega (arith, end, length-keys_of states)))
