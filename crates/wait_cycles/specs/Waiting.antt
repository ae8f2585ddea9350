-- Accesses that wait, at most one of a transaction.
use Rattle.std.specs.Prelude.{◌≡◌, ◌+◌, Bool, false, ◌<◌, ◌≤◌, ℕ, nat_eq, List, length, Option, Some, find, slice_get, if◌then◌else◌}
use Rattle.std.specs.Option.{option_map, unwrap_or}
use Rattle.txn_tree.specs.States.{States}
use Rattle.serial_spec.specs.declared.target.Target.{Target}
use Rattle.serial_spec.specs.Targets.{meets, target}
pub use Rattle.txn_tree.specs.Numbered.{is_under}
use Rattle.wait_cycles.specs.declared.waits.Wait.{Wait}

-- the waits, in the order in which they are gone through, and how many more may be added without
-- memory
pub record Waiting : Type 0 where
  pub waits : List Wait
  pub room : ℕ

-- the wait of this transaction
abbrev pub wait_in : List Wait → ℕ → Option Wait
wait_in waits t = find (λ w. nat_eq w.txn t) waits

abbrev pub wait_of : Waiting → ℕ → Option Wait
wait_of s t = wait_in s.waits t

-- the transaction's wait stands at this place
abbrev pub StandsAt : Waiting → ℕ → ℕ → Type 0
StandsAt s t place = (w : Wait) × (wait_of s t ≡ Some w) × (slice_get s.waits place ≡ Some w)

-- whether there is a wait, of the transaction or of one below it
abbrev pub is_under_in : States → ℕ → Option Wait → Bool
is_under_in tree t o = unwrap_or (option_map (λ w. is_under tree t w.txn) o) false

-- no two waits are of one transaction, so that each transaction that waits is met once
pub record AreOnce (s : Waiting) : Type 0 where
  pub apart : (i j : ℕ) (v w : Wait) → slice_get s.waits i ≡ Some v → slice_get s.waits j ≡ Some w
      → v.txn ≡ w.txn → i ≡ j
  pub all : (t : ℕ) (w : Wait) → wait_of s t ≡ Some w → (i : ℕ) × (slice_get s.waits i ≡ Some w)

-- the wait of u, once there is this one more
abbrev pub wait_with : Waiting → Wait → ℕ → Option Wait
wait_with s w u = if nat_eq w.txn u then Some w else wait_of s u

-- one waits that did not, and all others as before
pub record HasJoined (old new : Waiting) (w : Wait) : Type 0 where
  pub waits : (u : ℕ) → wait_of new u ≡ wait_with old w u
  pub len : length new.waits ≡ length old.waits + 1

-- the wait at this place is gone, and the last stands there
pub record IsTaken (place : ℕ) (old new : List Wait) : Type 0 where
  pub len : length new + 1 ≡ length old
  pub from : (i : ℕ) → i < length new
      → slice_get new i ≡ slice_get old (if nat_eq i place then length new else i)

-- no wait that stands at or behind the first place, and before the second, is for what has a key in
-- common with this
abbrev pub AreUnmet : List Wait → Target → ℕ → ℕ → Type 0
AreUnmet waits s from to = (place : ℕ) (w : Wait) → from ≤ place → place < to
    → slice_get waits place ≡ Some w → meets s (target w.asked) ≡ false
