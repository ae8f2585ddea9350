-- What each step does to locks and versions at once.
use Rattle.std.specs.Prelude.{◌≡◌, ℕ, ℤ, nat_eq, if◌then◌else◌, List, Option, None}
use Rattle.txn_tree.specs.States.{States}
use Rattle.lock_table.specs.Targeted as locks
use Rattle.lock_table.specs.Blocking.{is_under}
use Rattle.version_stack.specs.Versioned as versions
use Rattle.serial_spec.specs.declared.mode.Mode.TheVariants as mode
use Rattle.serial_spec.specs.declared.operation.Reply.{Reply}
use Rattle.serial_spec.specs.declared.target.Asked.{Asked}
use Rattle.serial_spec.specs.declared.target.Target.{Target}
use Rattle.serial_spec.specs.declared.target.Target.TheVariants.{Group}
use Rattle.serial_spec.specs.Targets.{kind_of, target}
use Rattle.serial_spec.specs.Locks.{mode_of}
use Rattle.serial_spec.specs.Values.{leaves_at}
use Rattle.serial_spec.specs.History.{or_else}
use Rattle.inherit.specs.LocksAndVersions.{LocksAndVersions, free, modes_of, left_of, base_of, rows_of}

-- what u left at q, where t left what it asked leaves by this reply, if it is something
abbrev pub left_more : versions.Versioned → ℕ → Asked → Reply → ℕ → List ℕ → Option (Option ℤ)
left_more v t asked reply u q =
    if nat_eq t u then or_else (leaves_at asked reply q) (versions.left_in v u q)
    else versions.left_in v u q

-- t has locked what it asked for, and left what that leaves
pub record HasAccessed (old new : LocksAndVersions) (t : ℕ) (asked : Asked)
    (reply : Reply) : Type 0 where
  pub modes : (u : ℕ) (s : Target)
      → modes_of new u s ≡ locks.held_at old.locks t (target asked) (mode_of (kind_of asked)) u s
  pub left : (u : ℕ) (q : List ℕ) → left_of new u q ≡ left_more old.versions t asked reply u q
  pub rows : rows_of new ≡ rows_of old

-- t has locked the group to read, and left nothing
pub record HasSummed (old new : LocksAndVersions) (t : ℕ) (g : List ℕ) : Type 0 where
  pub modes : (u : ℕ) (s : Target)
      → modes_of new u s ≡ locks.held_at old.locks t (Group g) mode.Read u s
  pub versions : new.versions ≡ old.versions

-- what the child had has gone up
pub record HasGoneUp (old new : LocksAndVersions) (child : ℕ) (parent : Option ℕ) : Type 0 where
  pub modes : (u : ℕ) (s : Target)
      → modes_of new u s ≡ locks.handed_up_at old.locks child parent u s
  pub left : (u : ℕ) (q : List ℕ)
      → left_of new u q ≡ versions.handed_up old.versions child parent u q
  pub base : (q : List ℕ) → base_of new q ≡ versions.base_after old.versions child parent q
  -- where nothing of the table changes its rows are the same
  pub same : ((q : List ℕ) → versions.base_after old.versions child parent q ≡ base_of old q)
      → rows_of new ≡ rows_of old

-- what t and all below it had is gone
pub record HasDropped (tree : States) (old new : LocksAndVersions) (t : ℕ) : Type 0 where
  pub modes : (u : ℕ) (s : Target)
      → modes_of new u s ≡ (if is_under tree t u then free else modes_of old u s)
  pub left : (u : ℕ) (q : List ℕ)
      → left_of new u q ≡ (if is_under tree t u then None else left_of old u q)
  pub rows : rows_of new ≡ rows_of old
