-- Locks by target: one table of locks by key, one by group, and one that tells by group who has
-- written a key of it. The bytes of a group are those of a key, so that each is a table by key.
use Rattle.std.specs.Prelude.{◌≡◌, ◌<◌, ◌≤◌, ℕ, Bool, true, false, nat_eq, nat_lt, not, ◌&&◌, ◌||◌, ◌↔◌, ◌⊎◌, if◌then◌else◌, IfSome, List, [], length, take, Option, Some, None}
use Rattle.std.specs.List.{list_any}
use Rattle.std.specs.List.Sorted.{IsStrictlyIncreasing}
use Rattle.txn_names.specs.Groups.{has}
use Rattle.txn_tree.specs.States.{States}
use Rattle.serial_spec.specs.declared.operation.Kind.{Kind}
use Rattle.serial_spec.specs.declared.operation.Kind.TheVariants.{Read, Write}
use Rattle.serial_spec.specs.declared.mode.Mode.{Mode}
use Rattle.serial_spec.specs.declared.mode.Mode.TheVariants as mode
use Rattle.serial_spec.specs.declared.target.Asked.{Asked}
use Rattle.serial_spec.specs.declared.target.Target.{Target}
use Rattle.serial_spec.specs.declared.target.Target.TheVariants.{Key, Group}
use Rattle.serial_spec.specs.Targets.{kind_of, meets, target, target_eq}
use Rattle.serial_spec.specs.Locks.{conflicts, is_exclusive}
use Rattle.lock_table.specs.declared.modes.Modes.{Modes}
use Rattle.lock_table.specs.Inherited.{free, whole, with_held, with_retained}
use Rattle.lock_table.specs.Locked as one
use Rattle.lock_table.specs.Blocking.{has_number, is_blocked_in, is_blocker_in, is_under}

pub record Targeted : Type 0 where
  pub keys : one.Table
  pub sums : one.Table
  pub writers : one.Table

-- the modes in which u locks a key or a group
abbrev pub modes_at : Targeted → ℕ → Target → Modes
modes_at l u (Key k) = one.modes_in l.keys u k
modes_at l u (Group g) = one.modes_in l.sums u g

-- held, and retained
abbrev pub both_of : Modes → Mode × Mode
both_of m = (m.held, m.retained)

-- where u may be locked without memory
abbrev pub has_place : Targeted → ℕ → Target → Bool
has_place l u (Key k) = one.has_place l.keys u k
has_place l u (Group g) = one.has_place l.sums u g

-- where u may be marked without memory as one that writes a key of the group
abbrev pub has_mark_place : Targeted → ℕ → List ℕ → Bool
has_mark_place l u g = one.has_place l.writers u g

-- at each group of the key; some bytes are one where the key begins with them and a dot stands
-- behind
abbrev pub AtGroups : List ℕ → (List ℕ → Type 0) → Type 0
AtGroups k P = (g : List ℕ) → has g k ≡ true → 0 < length g → P g

-- at one of them
abbrev pub AtSomeGroup : List ℕ → (List ℕ → Type 0) → Type 0
AtSomeGroup k P = (g : List ℕ) × (has g k ≡ true) × (0 < length g) × P g

-- the key may be written without memory: each of its groups has a place for the mark
abbrev pub HasMarks : Targeted → ℕ → List ℕ → Type 0
HasMarks l u k = AtGroups k (λ g. has_mark_place l u g ≡ true)

-- the key may be locked for an access of this kind without memory
pub record MayHold (l : Targeted) (u : ℕ) (k : List ℕ) (x : Kind) : Type 0 where
  pub place : has_place l u (Key k) ≡ true
  pub marks : x ≡ Write → HasMarks l u k

abbrev pub writes : Modes → Bool
writes m = is_exclusive (whole m)

-- the writers of a group are those who lock a key of it to write
pub record AreWriters (keys writers : one.Table) : Type 0 where
  pub wrote : (u : ℕ) (g : List ℕ) → writes (one.modes_in writers u g) ≡ true
      → (k : List ℕ) × (has g k ≡ true) × (writes (one.modes_in keys u k) ≡ true)
  pub marked : (u : ℕ) (g k : List ℕ) → 0 < length g → has g k ≡ true
      → writes (one.modes_in keys u k) ≡ true → writes (one.modes_in writers u g) ≡ true

-- a group without bytes is none, and groups are only read
pub record AreSums (sums : one.Table) : Type 0 where
  pub none : (u : ℕ) → one.modes_in sums u [] ≡ free
  pub read : (u : ℕ) (g : List ℕ) → writes (one.modes_in sums u g) ≡ false

-- u locks something that has a key in common with the target, in a mode that keeps an access of
-- this kind out
abbrev pub Reaches : Targeted → ℕ → Target → Kind → Type 0
Reaches l u s x = (v : Target) × (meets v s ≡ true) × (conflicts (whole (modes_at l u v)) x ≡ true)

-- u keeps t from the access
pub record IsBlockerAt (tree : States) (l : Targeted) (t : ℕ) (s : Target) (x : Kind) (u : ℕ)
    : Type 0 where
  pub begun : has_number tree u ≡ true
  pub beside : is_under tree u t ≡ false
  pub reaches : Reaches l u s x

-- nobody does
abbrev pub MayAt : States → Targeted → ℕ → Target → Kind → Type 0
MayAt tree l t s x = (u : ℕ) → IsBlockerAt tree l t s x u → ⊥

-- by its sum over a group of the key
abbrev pub BlocksBySum : States → one.Table → ℕ → List ℕ → ℕ → Type 0
BlocksBySum tree sums t k u = AtSomeGroup k (λ g. is_blocker_in tree sums t g Write u ≡ true)

-- nobody does so
abbrev pub NoSumBlocks : States → one.Table → ℕ → List ℕ → Type 0
NoSumBlocks tree sums t k = AtGroups k (λ g. is_blocked_in tree sums t g Write ≡ false)

abbrev pub IsAmong : List ℕ → ℕ → Type 0
IsAmong numbers u = list_any (nat_eq u) numbers ≡ true

-- those who keep t from the access, the first begun first
pub record AreBlockers (tree : States) (l : Targeted) (t : ℕ) (s : Target) (x : Kind)
    (found : List ℕ) : Type 0 where
  pub rising : IsStrictlyIncreasing found
  pub each : (u : ℕ) → IsAmong found u ↔ IsBlockerAt tree l t s x u

-- How many lists there are of those whose locks meet the target. The first of a key has those that
-- lock it, and each other those that lock the group of so many bytes of the key, if there is one.
-- The one list of a group has those that write a key of it
abbrev pub lists_of : Target → ℕ
lists_of (Key k) = length k
lists_of (Group g) = 1

-- whether u is in the list at this place
abbrev pub is_listed : Targeted → Target → ℕ → ℕ → Bool
is_listed l (Key k) place u =
    if nat_eq place 0 then one.has_place l.keys u k
    else has (take place k) k && one.has_place l.sums u (take place k)
is_listed l (Group g) place u = nat_eq place 0 && one.has_place l.writers u g

-- whoever may keep another from what is asked of the target is in a list of it
abbrev pub AreListed : Targeted → Target → Type 0
AreListed l s = (u : ℕ) (a : Asked) → target a ≡ s → Reaches l u s (kind_of a)
    → (place : ℕ) × (place < lists_of s) × (is_listed l s place u ≡ true)

-- these have come to be among the numbers, and no others
pub record IsJoined (old : List ℕ) (Wanted : ℕ → Type 0) (new : List ℕ) : Type 0 where
  pub kept : (u : ℕ) → IsAmong old u → IsAmong new u
  pub all : (u : ℕ) → Wanted u → IsAmong new u
  pub none : (u : ℕ) → IsAmong new u → IsAmong old u ⊎ Wanted u

-- where t's lock of the target is raised
abbrev pub held_at : Targeted → ℕ → Target → Mode → ℕ → Target → Modes
held_at l t s more u v =
    if nat_eq t u && target_eq s v then with_held (modes_at l u v) more else modes_at l u v

-- where the child has handed its locks up: it has none, and the parent retains each in its whole
-- mode
abbrev pub handed_up_at : Targeted → ℕ → Option ℕ → ℕ → Target → Modes
handed_up_at l child parent u v =
    if nat_eq child u then free
    else if one.is_it parent u then with_retained (modes_at l u v) (whole (modes_at l child v))
    else modes_at l u v

-- where those are gone
abbrev pub modes_left : (ℕ → Bool) → Targeted → ℕ → Target → Modes
modes_left gone l u s = if gone u then free else modes_at l u s

abbrev pub places_left : {X : Type 0} → (ℕ → Bool) → (ℕ → X → Bool) → ℕ → X → Bool
places_left gone place u x = not (gone u) && place u x

-- whatever the child locks or marks goes up without memory
pub record MayGoUpTo (l : Targeted) (child p : ℕ) : Type 0 where
  pub places : (s : Target) → has_place l child s ≡ true → has_place l p s ≡ true
  pub marks : (g : List ℕ) → has_mark_place l child g ≡ true → has_mark_place l p g ≡ true

-- ---- places

abbrev pub HasModes : Targeted → (ℕ → Target → Modes) → Type 0
HasModes l modes = (u : ℕ) (s : Target) → modes_at l u s ≡ modes u s

abbrev pub HasPlaces : Targeted → (ℕ → Target → Bool) → Type 0
HasPlaces l place = (u : ℕ) (s : Target) → has_place l u s ≡ place u s

abbrev pub HasMarkPlaces : Targeted → (ℕ → List ℕ → Bool) → Type 0
HasMarkPlaces l place = (u : ℕ) (g : List ℕ) → has_mark_place l u g ≡ place u g

-- where there are places, once t has one at the target
abbrev pub with_place_at : Targeted → ℕ → Target → ℕ → Target → Bool
with_place_at l t s u v = (nat_eq t u && target_eq s v) || has_place l u v

-- once the parent has one at each target where the child has one
abbrev pub with_childs_at : Targeted → ℕ → ℕ → ℕ → Target → Bool
with_childs_at l child parent u s = (nat_eq parent u && has_place l child s) || has_place l u s

abbrev pub with_child_marks : Targeted → ℕ → ℕ → ℕ → List ℕ → Bool
with_child_marks l child parent = one.with_childs (has_mark_place l) child parent

-- once t has one at each group of the key
abbrev pub with_groups : (ℕ → List ℕ → Bool) → ℕ → List ℕ → ℕ → List ℕ → Bool
with_groups place t k u g = (nat_eq t u && (has g k && nat_lt 0 (length g))) || place u g

-- where a group may be marked, once t has a place for each mark that an access of this kind makes
abbrev pub with_marks : Targeted → ℕ → List ℕ → Kind → ℕ → List ℕ → Bool
with_marks l t k Read = has_mark_place l
with_marks l t k Write = with_groups (has_mark_place l) t k

-- no place has gone, and each new one is wanted
pub record IsUpTo {X : Type 0} (old new wanted : ℕ → X → Bool) : Type 0 where
  pub kept : (u : ℕ) (x : X) → old u x ≡ true → new u x ≡ true
  pub added : (u : ℕ) (x : X) → new u x ≡ true → wanted u x ≡ true

abbrev pub AddsPlaces : Targeted → Targeted → (ℕ → Target → Bool) → Type 0
AddsPlaces old new wanted = IsUpTo (has_place old) (has_place new) wanted

abbrev pub AddsMarkPlaces : Targeted → Targeted → (ℕ → List ℕ → Bool) → Type 0
AddsMarkPlaces old new wanted = IsUpTo (has_mark_place old) (has_mark_place new) wanted

-- ---- marks

-- a group of the key, with some bytes
abbrev pub IsGroupOf : List ℕ → List ℕ → Type 0
IsGroupOf k g = (has g k ≡ true) × (0 < length g)

-- the same with at least so many bytes
abbrev pub IsGroupFrom : List ℕ → ℕ → List ℕ → Type 0
IsGroupFrom k least g = (has g k ≡ true) × (0 < length g) × (least ≤ length g)

-- t has marked the group
abbrev pub IsMarkedAt : one.Table → ℕ → List ℕ → Type 0
IsMarkedAt writers t g = (one.modes_in writers t g).held ≡ mode.Write

-- whether g is shorter than this group, if there is one
abbrev pub IsShorter : Option (List ℕ) → List ℕ → Type 0
IsShorter None g = Unit {0}
IsShorter (Some f) g = length g < length f

-- this is a group of the key, and t has marked all that are shorter; all of the key's, if it is none
pub record IsMarkedUpTo (writers : one.Table) (t : ℕ) (k : List ℕ) (o : Option (List ℕ))
    : Type 0 where
  pub group : IfSome o (IsGroupOf k)
  pub marked : AtGroups k (λ g. IsShorter o g → IsMarkedAt writers t g)

-- the first group that is not marked, where this was the first so far and it is known whether g is
abbrev pub first_unmarked : Option (List ℕ) → Bool → List ℕ → Option (List ℕ)
first_unmarked (Some f) marked g = Some f
first_unmarked None true g = None
first_unmarked None false g = Some g

-- where t has marked the groups of the key that have some bytes, and fewer than n
abbrev pub marked_below : one.Table → ℕ → List ℕ → ℕ → ℕ → List ℕ → Modes
marked_below writers t k n u g =
    if nat_eq t u && (has g k && (nat_lt 0 (length g) && nat_lt (length g) n))
    then with_held (one.modes_in writers u g) mode.Write else one.modes_in writers u g

-- where it has marked all of them
abbrev pub marked_by : one.Table → ℕ → List ℕ → ℕ → List ℕ → Modes
marked_by writers t k u g =
    if nat_eq t u && (has g k && nat_lt 0 (length g))
    then with_held (one.modes_in writers u g) mode.Write else one.modes_in writers u g
