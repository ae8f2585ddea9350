-- How waits stand in a slab: each with its place among all, under a key that stands in a list at
-- that place, and in a table at the number of its transaction.
use Rattle.std.specs.Prelude.{◌≡◌, ◌<◌, ◌≤◌, ◌+◌, ℕ, List, [], length, map, slice_get, Option, Some}
use Rattle.std.specs.Option.{option_map, unwrap_or}
use Rattle.slab.specs.Slab.{Slab, get, slab_len}
use Rattle.serial_spec.specs.declared.entry.By.TheVariants.{Close}
use Rattle.serial_spec.specs.declared.target.Asked.TheVariants.{Over}
use Rattle.wait_cycles.specs.declared.records.Record.{Record}
use Rattle.wait_cycles.specs.declared.waits.Wait.{Wait}

-- what is read under a key that has none
abbrev pub no_wait : Wait
no_wait = record { txn = 0; asked = Over []; by = Close }

abbrev pub wait_under : Slab Record → ℕ → Wait
wait_under slab k = unwrap_or (option_map (λ r. r.wait) (get slab k)) no_wait

-- the waits, in the order of their keys
abbrev pub waits_under : Slab Record → List ℕ → List Wait
waits_under slab keys = map (wait_under slab) keys

-- under the key this wait stands, with this place
abbrev pub IsRecord : Slab Record → ℕ → Wait → ℕ → Type 0
IsRecord slab k w place = get slab k ≡ Some (record { wait = w; place = place })

pub record AreStored (slab : Slab Record) (keys : List ℕ) (table : List (Option ℕ)) : Type 0 where
  pub number : slab_len slab ≡ length keys
  -- under each key stands a record that has the key's place
  pub stored : (i k : ℕ) → slice_get keys i ≡ Some k
      → option_map (λ r. r.place) (get slab k) ≡ Some i
  -- and there are no others
  pub kept : (k : ℕ) (r : Record) → get slab k ≡ Some r → slice_get keys r.place ≡ Some k
  -- a key stands in the table at the number of its transaction
  pub own : (t k : ℕ) → slice_get table t ≡ Some (Some k)
      → option_map (λ r. r.wait.txn) (get slab k) ≡ Some t
  -- where the table has a place for it
  pub found : (k : ℕ) (r : Record) → get slab k ≡ Some r → r.wait.txn < length table
      → slice_get table r.wait.txn ≡ Some (Some k)
  pub apart : (j k : ℕ) (q r : Record) → get slab j ≡ Some q → get slab k ≡ Some r
      → q.wait.txn ≡ r.wait.txn → j ≡ k

-- so many more find room, and where any find it, or stand already, the table has been made
pub record HasRoom (slab : Slab Record) (keys : List ℕ) (keys_capacity : ℕ)
    (table : List (Option ℕ)) (room : ℕ) : Type 0 where
  pub in_slab : slab_len slab + room ≤ slab.capacity
  pub in_keys : length keys + room ≤ keys_capacity
  pub made : 0 < length keys + room → 0 < length table

-- what the table tells: a key stands at the number of its transaction
pub record AreInTable (slab : Slab Record) (table : List (Option ℕ)) : Type 0 where
  pub own : (t k : ℕ) → slice_get table t ≡ Some (Some k)
      → option_map (λ r. r.wait.txn) (get slab k) ≡ Some t
  pub found : (k : ℕ) (r : Record) → get slab k ≡ Some r → r.wait.txn < length table
      → slice_get table r.wait.txn ≡ Some (Some k)
