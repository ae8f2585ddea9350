-- A live run, line by line of its input.
use Rattle.std.specs.Prelude.{◌≡◌, ◌⊎◌, ◌^◌, ℕ, suc, Bool, true, false, List, [], ◌∷◌, ◌++◌, length, Option, Some, None, Result, Ok, Err}
use Rattle.txn_bytes.specs.Written.{Writer}
use Rattle.serial_spec.specs.declared.event.Event.{Event}
use Rattle.serial_spec.specs.Interleaving.{Session}
use Rattle.line_language.specs.declared.fault.LineKind.{LineKind}
use Rattle.line_language.specs.declared.fault.LineKind.TheVariants as kind
use Rattle.session_text.specs.Requests.{request_of}
use Rattle.growing_sessions.specs.Growing.{begun_report, labels_in}
use Rattle.durable_top.specs.declared.store.TopStore.{Ghosts}
use Rattle.interleavings.specs.Scheduled.{LetsGo}
use Rattle.interleavings.specs.Turning.{Turning}
use Rattle.request_lines.specs.declared.lines.Taken.{Taken}
use Rattle.request_lines.specs.declared.lines.Taken.TheVariants.{Whole, Long, Cut, End}
use Rattle.txn_bytes.specs.Sources.{Reader}
use Rattle.request_lines.specs.Taking.{Holds, Stops, Takes}
use Rattle.live_sessions.specs.Requested.{with_request}
use Rattle.live_sessions.specs.Handling.{Breaks, Handled, IsTaken}
use Rattle.program_words.specs.Faults.{IsSaid, spelled_fault}
use Rattle.program_words.specs.declared.fault.Fault.TheVariants.{Line}
use Rattle.live_runs.specs.declared.fault.LiveFault.{LiveFault}
use Rattle.live_runs.specs.declared.fault.LiveFault.TheVariants.{Open, Read, NoMemory, Write}
use Rattle.live_runs.specs.Showing.{IsShown, IsUnshown}

-- ---- the lines

-- a line of the input: its bytes as far as they are kept, and why it was not taken, if it was not
pub record Heard : Type 0 where
  pub bytes : List ℕ
  pub fault : Option LineKind

-- the sessions that lines make, the newest line first: of a line that was taken what it is read as
abbrev pub with_read : Result (List ℕ × Event) LineKind → List Session → List Session
with_read (Err k) ss = ss
with_read (Ok r) ss = with_request ss r.0 r.1

-- with a line, which counts where it was taken
abbrev pub with_heard : Option LineKind → List ℕ → List Session → List Session
with_heard None bs ss = with_read (request_of bs) ss
with_heard (Some k) bs ss = ss

-- the sessions that these lines make
abbrev pub sessions_heard : List Heard → List Session
sessions_heard [] = []
sessions_heard (x ∷ list) = with_heard x.fault x.bytes (sessions_heard list)

-- ---- moments

-- the reader and what is held of its bytes, the sessions, and the two writers
pub record Moment (R S W E : Type 0) : Type 0 where
  pub reader : R
  pub holds : Holds
  pub live : Turning S
  pub out : W
  pub err : E

-- a moment of its parts
abbrev pub moment : {R S W E : Type 0} → R → Holds → Turning S → W → E → Moment R S W E
moment reader holds live out err =
    record { reader = reader; holds = holds; live = live; out = out; err = err }

-- nothing is held yet
abbrev pub holds_nothing : Holds
holds_nothing = record { held = []; kept = [] }

-- the beginning of the report that sessions under way have so far
abbrev pub begun_of : {S : Type 0} → Turning S → List ℕ
begun_of t = begun_report t.core.rows (labels_in t.sessions) t.core.history

-- ---- one line

module _ {S W : Type 0} (w : Writer W) where
  -- what of it the sessions have brought about since, and the first have not, was written and
  -- passed on
  pub record IsShownSince (old new : Turning S) (out_old out_new : W) : Type 0 where
    pub more : List ℕ
    pub grown : begun_of new ≡ begun_of old ++ more
    pub shown : IsShown w out_old out_new more

  -- it was written in part, or not passed on
  pub record IsUnshownSince (old new : Turning S) (out_old out_new : W) : Type 0 where
    pub more : List ℕ
    pub grown : begun_of new ≡ begun_of old ++ more
    pub unshown : IsUnshown w out_old out_new more

  -- what a request brought about was shown; what was not taken brought nothing about
  abbrev pub IsShownOf : Option LineKind → Turning S → Turning S → W → W → Type 0
  IsShownOf None old new out_old out_new = IsShownSince old new out_old out_new
  IsShownOf (Some k) old new out_old out_new = out_new ≡ out_old

-- nothing was told, or the line that says why line n was not taken
abbrev pub IsToldOf : {E : Type 0} → Writer E → ℕ → Option LineKind → E → E → Type 0
IsToldOf e n None old new = new ≡ old
IsToldOf e n (Some k) old new = IsSaid e old new (spelled_fault (Line n k))

-- what becomes of a line, as it was taken off the reader
abbrev pub Becomes : {S : Type 0} → Ghosts S → Taken → List ℕ → Option LineKind
    → Turning S → Turning S → Type 0
Becomes g Whole bytes fault old new = Handled g old bytes new fault
Becomes g Long bytes fault old new = (fault ≡ Some kind.Long) × (new ≡ old)
Becomes g Cut bytes fault old new = ⊥
Becomes g End bytes fault old new = ⊥

-- a whole line was handled, and what came of it was told or shown
pub record Answers {S W E : Type 0} (g : Ghosts S) (w : Writer W) (e : Writer E) (n : ℕ)
    (bytes : List ℕ) (old new : Turning S) (out_old out_new : W)
    (err_old err_new : E) : Type 0 where
  pub fault : Option LineKind
  pub handled : Handled g old bytes new fault
  pub told : IsToldOf e n fault err_old err_new
  pub shown : IsShownOf w fault old new out_old out_new

module _ {S W : Type 0} (g : Ghosts S) (w : Writer W) where
  -- it was taken, and what came of it was not shown; the store comes back
  pub record IsUnshownAnswer (bytes : List ℕ) (old : Turning S) (out_old out_new : W)
      (left : S) : Type 0 where
    pub new : Turning S
    pub taken : IsTaken g old bytes new
    pub go : LetsGo g new left
    pub unshown : IsUnshownSince w old new out_old out_new

  -- why a whole line has no answer, and the store that comes back
  abbrev pub HasAnswerFault : List ℕ → Turning S → W → W → S → LiveFault → Type 0
  HasAnswerFault bytes old out_old out_new left (Open cause) = ⊥
  HasAnswerFault bytes old out_old out_new left Read = ⊥
  HasAnswerFault bytes old out_old out_new left NoMemory =
      Breaks g old bytes left × (out_new ≡ out_old)
  HasAnswerFault bytes old out_old out_new left Write =
      IsUnshownAnswer bytes old out_old out_new left

-- ---- line after line

module _ {R S W E : Type 0} (r : Reader R) (g : Ghosts S) (w : Writer W) (e : Writer E) where
  -- line n was taken off the reader, and was told or answered
  pub record HearsOne (n : ℕ) (old : Moment R S W E) (x : Heard)
      (new : Moment R S W E) : Type 0 where
    pub taken : Taken
    pub takes : Takes r old.reader new.reader old.holds new.holds taken
    pub bytes : x.bytes ≡ new.holds.kept
    pub becomes : Becomes g taken x.bytes x.fault old.live new.live
    pub told : IsToldOf e n x.fault old.err new.err
    pub shown : IsShownOf w x.fault old.live new.live old.out new.out

  -- these lines were, the newest first
  abbrev pub Hears : Moment R S W E → List Heard → Moment R S W E → Type 0
  Hears first [] now = now ≡ first
  Hears first (x ∷ list) now =
      (before : Moment R S W E) × Hears first list before
      × HearsOne (suc (length list)) before x now

  -- in place of line n the input ended, or bytes with no line feed came, and that was told
  abbrev pub IsEndOf : ℕ → Taken → E → E → Type 0
  IsEndOf n End old new = new ≡ old
  IsEndOf n Cut old new = IsSaid e old new (spelled_fault (Line n kind.End))
  IsEndOf n Whole old new = ⊥
  IsEndOf n Long old new = ⊥

  -- the input ended in place of line n, and nothing else came of that
  pub record EndsAt (n : ℕ) (old new : Moment R S W E) : Type 0 where
    pub taken : Taken
    pub takes : Takes r old.reader new.reader old.holds new.holds taken
    pub told : IsEndOf n taken old.err new.err
    pub same : new.live ≡ old.live
    pub unwritten : new.out ≡ old.out

  -- one turn: a line, and whether there may be more
  pub record HearsSome (n : ℕ) (old new : Moment R S W E) : Type 0 where
    pub line : Heard
    pub heard : HearsOne n old line new

  -- one turn, by whether there may be more
  abbrev pub HearsNext : ℕ → Moment R S W E → Moment R S W E → Bool → Type 0
  HearsNext n old new true = HearsSome n old new
  HearsNext n old new false = EndsAt n old new

  -- all lines of the input, up to its end
  pub record HearsAll (first : Moment R S W E) (reader : R) (live : Turning S) (out : W)
      (err : E) : Type 0 where
    pub list : List Heard
    pub last : Moment R S W E
    pub hears : Hears first list last
    pub holds : Holds
    pub ends : EndsAt (suc (length list)) last (moment reader holds live out err)

  -- ---- why a line was not heard

  -- the reader failed in the midst of it
  pub record IsUnread (old : Moment R S W E) (reader : R) (out : W) (left : S) : Type 0 where
    pub holds : Holds
    pub stops : Stops r old.reader reader old.holds holds
    pub unwritten : out ≡ old.out
    pub go : LetsGo g old.live left

  -- it was whole, and has no answer
  pub record IsUnanswered (old : Moment R S W E) (reader : R) (out : W) (left : S)
      (fault : LiveFault) : Type 0 where
    pub holds : Holds
    pub whole : Takes r old.reader reader old.holds holds Whole
    pub cause : HasAnswerFault g w holds.kept old.live old.out out left fault

  -- why it was not heard, and the store that comes back
  abbrev pub HasHearingFault : Moment R S W E → R → W → S → LiveFault → Type 0
  HasHearingFault old reader out left (Open cause) = ⊥
  HasHearingFault old reader out left Read = IsUnread old reader out left
  HasHearingFault old reader out left NoMemory = IsUnanswered old reader out left NoMemory
  HasHearingFault old reader out left Write = IsUnanswered old reader out left Write

  -- so many lines that they cannot be counted
  pub record IsUncounted (count : ℕ) (old : Moment R S W E) (reader : R) (out : W) (left : S)
      (fault : LiveFault) : Type 0 where
    pub many : suc (suc count) ≡ 2 ^ 64
    pub told : fault ≡ Read
    pub read : reader ≡ old.reader
    pub unwritten : out ≡ old.out
    pub go : LetsGo g old.live left

  -- behind these lines one was not heard; nothing was told of it yet
  pub record BreaksHearing (first : Moment R S W E) (reader : R) (out : W) (err : E) (left : S)
      (fault : LiveFault) : Type 0 where
    pub list : List Heard
    pub last : Moment R S W E
    pub hears : Hears first list last
    pub untold : err ≡ last.err
    pub cause : HasHearingFault last reader out left fault
        ⊎ IsUncounted (length list) last reader out left fault
