-- Sessions whose lines wait at one key, and what an attempt does to who they are.
use Rattle.std.specs.Prelude.{◌≡◌, ◌⊎◌, ◌<◌, ◌≤◌, ◌+◌, ℕ, Bool, true, false, List, length, Some}
use Rattle.std.specs.Int.{bit_at}
use Rattle.serial_spec.specs.declared.event.Event.{Event}
use Rattle.serial_spec.specs.declared.event.Event.TheVariants.{Access, Abort}
use Rattle.serial_spec.specs.declared.operation.Op.{Op}
use Rattle.serial_spec.specs.History.{Name, History, has_begun}
use Rattle.serial_spec.specs.Operations.{kind}
use Rattle.serial_spec.specs.Allowed.{has_waited, is_write}
use Rattle.serial_spec.specs.Interleaving.{Session, next_event, next_line}
use Rattle.txn_history.specs.Lines.{IsWaitOf}
use Rattle.manager_core.specs.declared.outcome.Came.{Came}
use Rattle.manager_core.specs.declared.outcome.Came.TheVariants as came
use Rattle.interleavings.specs.declared.crowd.Crowd.{Crowd}

abbrev pub IsGathered : Crowd → ℕ → Type 0
IsGathered c u = bit_at c.apart u ≡ 0

-- the crowd is of those that wait at this key by transactions of this depth
pub record IsCrowdAt (c : Crowd) (k : List ℕ) (labels : ℕ) : Type 0 where
  pub key : c.key ≡ Some k
  pub depth : c.depth ≡ labels

pub record IsSameCrowd (old new : Crowd) : Type 0 where
  pub key : new.key ≡ old.key
  pub depth : new.depth ≡ old.depth

-- The next line of session u waits, for an access at the key of the crowd by a transaction of its
-- depth. It may be that no lock keeps it out any more
pub record WaitsIn (ss : List Session) (h : History) (c : Crowd) (u : ℕ) : Type 0 where
  pub txn : Name
  pub key : List ℕ
  pub op : Op
  pub at : IsCrowdAt c key (length txn)
  pub event : next_event ss h u ≡ Some (Access txn key op)
  pub begun : has_begun h txn ≡ true
  pub waited : has_waited h (next_line h u) ≡ true
  pub waits : IsWaitOf h (next_line h u) (Access txn key op)

-- all of the crowd do
abbrev pub AreGathered : List Session → History → Crowd → Type 0
AreGathered ss h c = (u : ℕ) → u < 64 → IsGathered c u → WaitsIn ss h c u

-- the session joined the crowd by a line that asks this, and nobody else did
pub record HasJoined (c : Crowd) (s : ℕ) (due : Event) (u : ℕ) : Type 0 where
  pub session : u ≡ s
  pub txn : Name
  pub key : List ℕ
  pub op : Op
  pub due_is : due ≡ Access txn key op
  pub at : IsCrowdAt c key (length txn)

-- session u was in the crowd, as another than this one
pub record IsStillIn (old new : Crowd) (s u : ℕ) : Type 0 where
  pub gathered : IsGathered old u
  pub other : u ≡ s → ⊥
  pub same : IsSameCrowd old new

-- in the crowd are this session, which joined it where lines wait at this key by names with so many
-- labels, and others that were there before
abbrev pub AreJoinedBy : Crowd → Crowd → ℕ → List ℕ → ℕ → Type 0
AreJoinedBy old new s k labels = (u : ℕ) → u < 64 → IsGathered new u
    → ((u ≡ s) × IsCrowdAt new k labels) ⊎ IsStillIn old new s u

abbrev pub is_abort : Event → Bool
is_abort (Abort t) = true
is_abort e = false

-- as another than session s, whose line, which asks this, aborts nobody
abbrev pub StaysIn : Crowd → Crowd → ℕ → Event → ℕ → Type 0
StaysIn old new s due u = (is_abort due ≡ false) × IsStillIn old new s u

-- Session u is in the crowd after one entry of session s, of a line that asks this: it began to wait
-- by it, or it was there before as another, and the line aborts nobody
abbrev pub IsGatheredBy : Crowd → Crowd → ℕ → Event → Came → ℕ → Type 0
IsGatheredBy old new s due what u =
    ((what ≡ came.Waits) × HasJoined new s due u) ⊎ StaysIn old new s due u

abbrev pub AreGatheredBy : Crowd → Crowd → ℕ → Event → Came → Type 0
AreGatheredBy old new s due what = (u : ℕ) → u < 64 → IsGathered new u
    → IsGatheredBy old new s due what u

-- the same after an attempt, where there were so many entries before
abbrev pub IsStillGathered : Crowd → Crowd → History → ℕ → ℕ → Event → Came → ℕ → Type 0
IsStillGathered old new h before s due what u =
    ((length h ≤ before) × IsGathered old u × IsSameCrowd old new)
    ⊎ ((length h ≡ before + 1) × IsGatheredBy old new s due what u)

-- the line writes a key
abbrev pub is_write_at : Event → Bool
is_write_at (Access t k o) = is_write (kind o)
is_write_at e = false

-- both are of the crowd, and the line that asks this writes a key
abbrev pub IsOfWriter : Crowd → ℕ → Event → ℕ → Type 0
IsOfWriter c s due u = (is_write_at due ≡ true) × IsGathered c s × IsGathered c u

-- Session u waits at the key that session s wrote by this line, for which it had waited there too
pub record IsPassedOver (c : Crowd) (s : ℕ) (due : Event) (what : Came) (u : ℕ) : Type 0 where
  pub done : what ≡ came.Done
  pub writes : is_write_at due ≡ true
  pub writer : IsGathered c s
  pub gathered : IsGathered c u
  pub other : u ≡ s → ⊥

-- the session began to wait at a key by the line that asks this
pub record HasParked (s : ℕ) (due : Event) (what : Came) (u : ℕ) : Type 0 where
  pub waits : what ≡ came.Waits
  pub session : u ≡ s
  pub txn : Name
  pub key : List ℕ
  pub op : Op
  pub due_is : due ≡ Access txn key op
