-- What a request does to sessions under way.
use Rattle.std.specs.Prelude.{◌≡◌, ◌⊎◌, ℕ, List, Option, Some, None, Ok}
use Rattle.serial_spec.specs.declared.event.Event.{Event}
use Rattle.serial_spec.specs.History.{History}
use Rattle.serial_spec.specs.Interleaving.{Session, Step}
use Rattle.line_language.specs.declared.fault.LineKind.{LineKind}
use Rattle.session_text.specs.Requests.{request_of}
use Rattle.growing_sessions.specs.Growing.{IsOpenEnded, labels_in}
use Rattle.durable_top.specs.declared.store.TopStore.{Ghosts}
use Rattle.interleavings.specs.Attempts.{GoesOn}
use Rattle.interleavings.specs.Progressing.{Going, AreUnderWay}
use Rattle.interleavings.specs.Scheduled.{Goes, LetsGo, StepsOfAll}
use Rattle.interleavings.specs.Turning.{Turning, NoneGoesOn}
use Rattle.live_sessions.specs.Requested.{number_of, request_fault, with_request}

-- what the type keeps: the sessions are under way, none of their lines was given up, and the labels
-- are theirs
pub record IsLive {S : Type 0} (ss : List Session) (ls : List (List ℕ)) (p : Going S) : Type 0 where
  pub way : AreUnderWay ss p
  pub open_ended : IsOpenEnded p.core.history
  pub labels : ls ≡ labels_in ss

-- The next line of session s was attempted, and then all sessions in order, so many times, until
-- none of them can go on
pub record Attempted {S : Type 0} (g : Ghosts S) (s : ℕ) (old new : Turning S) : Type 0 where
  pub goes : Goes g old new
  pub mid : History
  pub own : Step old.core.rows old.sessions old.core.history s mid
  pub count : ℕ
  pub others : StepsOfAll old.core.rows old.sessions count mid new.core.history
  pub settled : NoneGoesOn old.core.rows old.sessions new.core.history

-- the session with this label got the line, which was attempted so
pub record Grows {S : Type 0} (g : Ghosts S) (old : Turning S) (l : List ℕ) (e : Event)
    (new : Turning S) : Type 0 where
  pub sessions : new.sessions ≡ with_request old.sessions l e
  pub on : GoesOn g old.core new.core
  pub attempted : Attempted g (number_of l old.sessions)
      (record { sessions = new.sessions; core = old.core }) new

-- The request was taken, since nothing was wrong with it
pub record IsTaken {S : Type 0} (g : Ghosts S) (old : Turning S) (bs : List ℕ)
    (new : Turning S) : Type 0 where
  pub label : List ℕ
  pub event : Event
  pub read : request_of bs ≡ Ok (label, event)
  pub welcome : request_fault old.sessions old.core.history bs ≡ None
  pub grows : Grows g old label event new

-- what came of a request: nothing, and why
abbrev pub Handled : {S : Type 0} → Ghosts S → Turning S → List ℕ → Turning S → Option LineKind
    → Type 0
Handled g old bs new None = IsTaken g old bs new
Handled g old bs new (Some kind) = (request_fault old.sessions old.core.history bs ≡ Some kind)
    × (new ≡ old)

-- Memory ran out where the session with this label had got the line, or not yet; what was attempted
-- until then stands, and the store comes back as that left it
pub record BreaksAt {S : Type 0} (g : Ghosts S) (old : Turning S) (l : List ℕ) (e : Event)
    (left : S) : Type 0 where
  pub last : Turning S
  pub sessions : (last.sessions ≡ old.sessions) ⊎ (last.sessions ≡ with_request old.sessions l e)
  pub on : GoesOn g old.core last.core
  pub go : LetsGo g last left

-- it ran out at a request that was to be taken
pub record Breaks {S : Type 0} (g : Ghosts S) (old : Turning S) (bs : List ℕ)
    (left : S) : Type 0 where
  pub label : List ℕ
  pub event : Event
  pub read : request_of bs ≡ Ok (label, event)
  pub welcome : request_fault old.sessions old.core.history bs ≡ None
  pub breaks : BreaksAt g old label event left
