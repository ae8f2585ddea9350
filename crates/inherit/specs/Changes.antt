-- What a transaction would put into the base.
use Rattle.std.specs.Prelude.{◌≡◌, ℕ, Bool, if◌then◌else◌, List, Some, None}
use Rattle.txn_tree.specs.States.{States}
use Rattle.lock_table.specs.Inherited.{whole}
use Rattle.version_stack.specs.Seen.{seen_in}
use Rattle.txn_names.specs.declared.change.Change.{Change}
use Rattle.serial_spec.specs.Changes.{AreRising, change_at}
use Rattle.serial_spec.specs.declared.target.Target.TheVariants.{Key}
use Rattle.serial_spec.specs.Locks.{is_exclusive}
use Rattle.inherit.specs.LocksAndVersions.{LocksAndVersions, modes_of}

-- whether t locks k to write
abbrev pub writes : LocksAndVersions → ℕ → List ℕ → Bool
writes a t k = is_exclusive (whole (modes_of a t (Key k)))

-- in byte order, each key that t locks to write and no other, with the value that t sees
pub record AreChangesOf (tree : States) (a : LocksAndVersions) (t : ℕ)
    (cs : List Change) : Type 0 where
  pub rising : AreRising cs
  pub each : (k : List ℕ)
      → change_at cs k ≡ (if writes a t k then Some (seen_in tree a.versions t k) else None)
