-- Which sessions are left out where lines are attempted, and what an attempt does to that.
use Rattle.std.specs.Prelude.{◌≡◌, ◌⊎◌, ◌<◌, ◌≤◌, ◌+◌, ℕ, Bool, true, false, List, length, Option, Some, None}
use Rattle.std.specs.Int.{bit_at}
use Rattle.serial_spec.specs.declared.event.Event.{Event}
use Rattle.serial_spec.specs.declared.event.Event.TheVariants.{Begin, Commit, Abort, After}
use Rattle.serial_spec.specs.History.{History}
use Rattle.serial_spec.specs.Rows.{Rows}
use Rattle.serial_spec.specs.Allowed.{known, most_keys}
use Rattle.serial_spec.specs.Interleaving.{Session, next_event}
use Rattle.manager_core.specs.Parking.{IsSessionParked}
use Rattle.manager_core.specs.declared.outcome.Came.{Came}
use Rattle.interleavings.specs.declared.ready.Ready.{Ready}
use Rattle.interleavings.specs.Crowds.{AreGathered, HasParked, IsGathered, IsPassedOver, IsStillGathered, IsStillIn}
use Rattle.interleavings.specs.Turning.{can_go_on}

abbrev pub IsLeftOut : Ready → ℕ → Type 0
IsLeftOut r u = bit_at r.may u ≡ 0

-- and it stays so where a transaction begins
abbrev pub IsLeftOutByBegins : Ready → ℕ → Type 0
IsLeftOutByBegins r u = IsLeftOut r u × (bit_at r.afters u ≡ 0)

-- it has no line left
abbrev pub IsIdle : Ready → ℕ → Type 0
IsIdle r u = bit_at r.busy u ≡ 0

abbrev pub is_after : Option Event → Bool
is_after (Some (After t w)) = true
is_after e = false

-- No session that is left out can go on, nor does one of them wait by an `after` line unless that
-- is known. One that is idle has no line left. All of the crowd wait
pub record AreLeftOut (rows : Rows) (ss : List Session) (h : History) (r : Ready) : Type 0 where
  pub held : (u : ℕ) → IsLeftOut r u → can_go_on rows ss h u ≡ false
  pub begins : (u : ℕ) → IsLeftOutByBegins r u → is_after (next_event ss h u) ≡ false
  pub idle : (u : ℕ) → IsIdle r u → next_event ss h u ≡ None
  pub crowd : AreGathered ss h r.crowd

-- session s got a line, so that of the others alone one may be left out
pub record IsWoken (old new : Ready) (s : ℕ) : Type 0 where
  pub out : (u : ℕ) → IsLeftOut new u → IsLeftOut old u × (u ≡ s → ⊥)
  pub begins : (u : ℕ) → IsLeftOutByBegins new u → IsLeftOutByBegins old u
  pub idle : (u : ℕ) → IsIdle new u → IsIdle old u × (u ≡ s → ⊥)
  pub crowd : (u : ℕ) → IsGathered new.crowd u → IsStillIn old.crowd new.crowd s u

-- the session is left out where this was answered
abbrev pub StaysBy : Ready → Event → ℕ → Type 0
StaysBy r (Begin t) u = IsLeftOutByBegins r u
StaysBy r (Commit t) u = ⊥
StaysBy r (Abort t) u = ⊥
StaysBy r e u = IsLeftOut r u

-- Session u stays out by one entry of session s, of a line that asks this: it was left out before, or
-- what it waits for has been taken by s, or it is s itself, whose line began to wait
abbrev pub StaysOutBy : Ready → ℕ → Event → Came → ℕ → Type 0
StaysOutBy r s due what u =
    ((u ≡ s → ⊥) × StaysBy r due u)
    ⊎ (IsPassedOver r.crowd s due what u ⊎ HasParked s due what u)

-- Session u was left out before or is the one that was attempted, and nothing has happened since
-- there were so many entries; or it stays out by one entry, while few keys are known
abbrev pub IsStillOut : Ready → Rows → History → ℕ → ℕ → Event → Came → ℕ → Type 0
IsStillOut r rows h before s due what u =
    ((length h ≤ before) × ((u ≡ s) ⊎ IsLeftOut r u))
    ⊎ ((length h ≤ before + 1) × (length (known rows h) < most_keys) × StaysOutBy r s due what u)

-- nor did it wait by an `after` line, or it waits in the crowd
abbrev pub IsStillPlain : Ready → ℕ → Event → ℕ → Type 0
IsStillPlain r s due u =
    ((u ≡ s) × (is_after (Some due) ≡ false)) ⊎ (IsLeftOutByBegins r u ⊎ IsGathered r.crowd u)

-- session u is of this set and was left out before, by no `after` line, and is another than s
pub record IsOutAgain (r : Ready) (set s u : ℕ) : Type 0 where
  pub out : IsLeftOutByBegins r u
  pub of_set : bit_at set u ≡ 1
  pub other : u ≡ s → ⊥

-- the session, another than s, was left out before, by no `after` line, and an access of it is kept
-- out
pub record IsParkedStill (r : Ready) (rows : Rows) (h : History) (s u : ℕ) : Type 0 where
  pub out : IsLeftOutByBegins r u
  pub other : u ≡ s → ⊥
  pub parked : IsSessionParked rows h u

-- what is left out after an attempt of session s, of a line that asks this, of which this came
pub record IsNoted (old new : Ready) (rows : Rows) (h : History) (before s : ℕ) (due : Event)
    (what : Came) : Type 0 where
  pub out : (u : ℕ) → u < 64 → IsLeftOut new u
      → IsIdle old u ⊎ (IsStillOut old rows h before s due what u
      ⊎ IsParkedStill old rows h s u)
  pub begins : (u : ℕ) → u < 64 → IsLeftOutByBegins new u
      → IsIdle old u ⊎ IsStillPlain old s due u
  pub idle : (u : ℕ) → IsIdle new u → IsIdle old u
  pub crowd : (u : ℕ) → u < 64 → IsGathered new.crowd u
      → IsStillGathered old.crowd new.crowd h before s due what u
