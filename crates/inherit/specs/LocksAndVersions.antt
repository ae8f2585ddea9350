-- What live transactions lock and what they left, as contracts see the two together.
use Rattle.std.specs.Prelude.{◌≡◌, ◌<◌, ℕ, ℤ, IsTrue, List, length, Option, Some, None}
use Rattle.txn_names.specs.Path.{Path, parent}
use Rattle.txn_tree.specs.States.{States}
use Rattle.txn_tree.specs.Asked.{IsNumberOf}
use Rattle.lock_table.specs.declared.modes.Modes.{Modes}
use Rattle.lock_table.specs.Targeted as locks
use Rattle.lock_table.specs.ByAsked.{MayHoldAsked}
pub use Rattle.lock_table.specs.Inherited.{free}
use Rattle.version_stack.specs.Versioned as versions
use Rattle.serial_spec.specs.declared.event.Event.{Event}
use Rattle.serial_spec.specs.declared.event.Event.TheVariants.{Begin, Access, Sum, Commit, Abort, After}
use Rattle.serial_spec.specs.declared.operation.Kind.TheVariants.{Read, Write}
use Rattle.serial_spec.specs.declared.target.Asked.{Asked}
use Rattle.serial_spec.specs.declared.target.Asked.TheVariants.{At, Over}
use Rattle.serial_spec.specs.declared.target.Target.{Target}
use Rattle.serial_spec.specs.Operations.{kind}
use Rattle.serial_spec.specs.Serial.{Map}
use Rattle.serial_spec.specs.Rows.{Rows}

pub record LocksAndVersions : Type 0 where
  pub locks : locks.Targeted
  pub versions : versions.Versioned

-- the modes in which t locks a key or a group
abbrev pub modes_of : LocksAndVersions → ℕ → Target → Modes
modes_of a t s = locks.modes_at a.locks t s

-- what t left at k
abbrev pub left_of : LocksAndVersions → ℕ → List ℕ → Option (Option ℤ)
left_of a t k = versions.left_in a.versions t k

-- the table, as a map and as its rows
abbrev pub base_of : LocksAndVersions → Map
base_of a = versions.base_in a.versions

abbrev pub rows_of : LocksAndVersions → Rows
rows_of a = a.versions.base.rows

-- what is left by what t asks has a place: a write leaves a value, and neither a read nor a sum
-- does
abbrev pub MayLeave : versions.Versioned → ℕ → Asked → Type 0
MayLeave v t (At k o) = kind o ≡ Write → IsTrue (versions.has_place v t k)
MayLeave v t (Over g) = Unit {0}

-- t may do what it asks without memory: it has the places for its lock, and one for what it leaves
abbrev pub HasPlace : LocksAndVersions → ℕ → Asked → Type 0
HasPlace a t asked = MayHoldAsked a.locks t asked × MayLeave a.versions t asked

-- whatever the child has goes up without memory: to its parent, or into the base where that is the
-- root
abbrev pub MayGoUp : LocksAndVersions → ℕ → Option ℕ → Type 0
MayGoUp a child (Some p) =
    locks.MayGoUpTo a.locks child p
    × ((q : List ℕ) → IsTrue (versions.has_place a.versions child q)
    → IsTrue (versions.has_place a.versions p q))
MayGoUp a child None = versions.FitsBase a.versions child

-- p is the number of t's parent, and there is none where that is the root
abbrev pub IsParent : States → Path → Option ℕ → Type 0
IsParent tree t None = length t ≡ 1
IsParent tree t (Some p) = (1 < length t) × IsNumberOf tree (parent t) p

-- the transaction with this name may do what it asks without memory
abbrev pub IsReadyToAsk : States → LocksAndVersions → Path → Asked → Type 0
IsReadyToAsk tree a t asked = (n : ℕ) → IsNumberOf tree t n → HasPlace a n asked

-- the step of this event takes no memory
abbrev pub IsReady : States → LocksAndVersions → Event → Type 0
IsReady tree a (Begin t) = Unit {0}
IsReady tree a (Access t k o) = IsReadyToAsk tree a t (At k o)
IsReady tree a (Sum t g) = IsReadyToAsk tree a t (Over g)
IsReady tree a (Commit t) = (n : ℕ) → IsNumberOf tree t n → (p : Option ℕ) → IsParent tree t p
    → MayGoUp a n p
IsReady tree a (Abort t) = Unit {0}
IsReady tree a (After t x) = Unit {0}

-- the step of this event is an access that leaves no value anywhere
abbrev pub IsRead : Event → Type 0
IsRead (Begin t) = ⊥
IsRead (Access t k o) = kind o ≡ Read
IsRead (Sum t g) = Unit {0}
IsRead (Commit t) = ⊥
IsRead (Abort t) = ⊥
IsRead (After t x) = ⊥

-- with other room it is the same
pub record IsSame (old new : LocksAndVersions) : Type 0 where
  pub modes : (u : ℕ) (s : Target) → modes_of new u s ≡ modes_of old u s
  pub left : (u : ℕ) (q : List ℕ) → left_of new u q ≡ left_of old u q
  pub rows : rows_of new ≡ rows_of old
