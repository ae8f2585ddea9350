-- Locks by what is asked: an operation at a key, or a sum over a group.
use Rattle.std.specs.Prelude.{ℕ, Bool, IsTrue, List}
use Rattle.txn_tree.specs.States.{States}
use Rattle.serial_spec.specs.declared.target.Asked.{Asked}
use Rattle.serial_spec.specs.declared.target.Asked.TheVariants.{At, Over}
use Rattle.serial_spec.specs.declared.target.Target.TheVariants.{Group}
use Rattle.serial_spec.specs.Operations.{kind}
use Rattle.serial_spec.specs.Targets.{kind_of, target}
use Rattle.lock_table.specs.Targeted.{IsBlockerAt, MayAt, MayHold, Targeted, has_mark_place, has_place, with_marks}

-- nobody keeps t from what it asks
abbrev pub MayAsk : States → Targeted → ℕ → Asked → Type 0
MayAsk tree l t a = MayAt tree l t (target a) (kind_of a)

-- u keeps t from what it asks
abbrev pub BlocksAsked : States → Targeted → ℕ → Asked → ℕ → Type 0
BlocksAsked tree l t a u = IsBlockerAt tree l t (target a) (kind_of a) u

-- what is asked may be locked without memory
abbrev pub MayHoldAsked : Targeted → ℕ → Asked → Type 0
MayHoldAsked l t (At k o) = MayHold l t k (kind o)
MayHoldAsked l t (Over g) = IsTrue (has_place l t (Group g))

-- where a group may be marked, once t has a place for each mark that what is asked makes
abbrev pub with_marks_asked : Targeted → ℕ → Asked → ℕ → List ℕ → Bool
with_marks_asked l t (At k o) = with_marks l t k (kind o)
with_marks_asked l t (Over g) = has_mark_place l
