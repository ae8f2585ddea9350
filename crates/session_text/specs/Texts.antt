-- What the bytes of a file are read as: its sessions, or the line and the kind of the first fault.
use Rattle.std.specs.Prelude.{◌≡◌, ℕ, ◌+◌, ◌-◌, ◌==◌, nat_le, if◌then◌else◌, List, [], ◌∷◌, ◌++◌, length, codes, Option, Some, None, Result, Ok, Err, slice_get, option_map, MatchResult}
use Rattle.std.specs.Str.{bytes_eq}
use Rattle.txn_names.specs.Text.{IsLabel}
use Rattle.serial_spec.specs.declared.limits.TheConstants.{MOST_LINES, MOST_SESSIONS}
use Rattle.serial_spec.specs.Interleaving.{Session, lines_of}
use Rattle.serial_spec.specs.declared.event.Event.{Event}
use Rattle.line_language.specs.declared.fault.LineKind.{LineKind}
use Rattle.line_language.specs.declared.fault.LineKind.TheVariants as kind
use Rattle.session_text.specs.declared.fault.TextFault.{TextFault}
use Rattle.session_text.specs.declared.fault.TextFault.TheVariants as fault
use Rattle.line_language.specs.Steps.{◌>>=◌, unless}
use Rattle.line_language.specs.Words.{cut_at}
use Rattle.line_language.specs.Commands.{Words, one, label_in, event_of}
use Rattle.line_language.specs.Events.{IsEvent}
use Rattle.session_text.specs.Grammar.{is_taken}

-- ---- one line, by itself

-- a header by its label, or a command by its event
pub data TextLine : Type 0 where
  Header : List ℕ → TextLine
  Command : Event → TextLine

abbrev pub labelled : Words → Result (List ℕ) LineKind
labelled ws = do
  w ← one ws
  label_in w

abbrev pub header_of : Words → Result TextLine LineKind
header_of ws = do
  l ← labelled ws
  Ok (Header l)

abbrev pub command_of : List ℕ → Result TextLine LineKind
command_of bs = event_of bs >>= λ e. Ok (Command e)

-- by the first of the words of a line, of which there is one at least
abbrev pub line_by : Words → List ℕ → Result TextLine LineKind
line_by [] bs = Err kind.Word
line_by (w ∷ ws) bs =
    if bytes_eq w (codes "session") then header_of ws
    else command_of bs

-- a header or a command
abbrev pub line_of : List ℕ → Result TextLine LineKind
line_of bs = line_by (cut_at 32 bs) bs

-- its label or its event is one
abbrev pub IsTextLine : TextLine → Type 0
IsTextLine (Header l) = IsLabel l
IsTextLine (Command e) = IsEvent e

-- ---- one line, behind the sessions so far

-- the lines of the last session
abbrev pub open_lines : List Session → List Event
open_lines [] = []
open_lines (s ∷ []) = s.lines
open_lines (s ∷ t ∷ ss) = open_lines (t ∷ ss)

-- the last session with one line more
abbrev pub with_line : List Session → Event → List Session
with_line [] e = []
with_line (s ∷ []) e = record { label = s.label; lines = s.lines ++ e ∷ [] } ∷ []
with_line (s ∷ t ∷ ss) e = s ∷ with_line (t ∷ ss) e

-- one session more
abbrev pub with_header : List Session → List ℕ → List Session
with_header ss l = ss ++ record { label = l; lines = [] } ∷ []

abbrev pub grown : List Session → TextLine → List Session
grown ss (Header l) = with_header ss l
grown ss (Command e) = with_line ss e

-- whether a line may stand here: a header's label is a new one and there is room for a session
-- more, a command has a session before it that has room for a line more
abbrev pub misplaced : List Session → TextLine → Option LineKind
misplaced ss (Header l) =
    if is_taken l ss then Some kind.Header
    else if nat_le MOST_SESSIONS (length ss) then Some kind.Limit
    else None
misplaced ss (Command e) =
    if length ss == 0 then Some kind.Header
    else if nat_le MOST_LINES (length (open_lines ss)) then Some kind.Limit
    else None

-- the sessions with the line that was read, or the first fault
abbrev pub placed : List Session → Result TextLine LineKind → Result (List Session) LineKind
placed ss read = do
  l ← read
  unless (misplaced ss l) (grown ss l)

-- the sessions with this line, or its first fault
abbrev pub with_bytes : List Session → List ℕ → Result (List Session) LineKind
with_bytes ss bs = placed ss (line_of bs)

-- ---- line by line

abbrev pub Read : Type 0
Read = Result (List Session) (ℕ × LineKind)

abbrev pub at_line : ℕ → Result (List Session) LineKind → Read
at_line n (Ok ss) = Ok ss
at_line n (Err k) = Err (n, k)

-- the parts between line feeds, from line n on: behind the last line feed nothing may stand
abbrev pub read_from : ℕ → List Session → List (List ℕ) → Read
read_from n ss [] = Ok ss
read_from n ss (p ∷ []) = if length p == 0 then Ok ss else Err (n, kind.End)
read_from n ss (p ∷ q ∷ ps) = do
  more ← at_line n (with_bytes ss p)
  read_from (n + 1) more (q ∷ ps)

-- the sessions of a file, or the line and the kind of its first fault
abbrev pub sessions_of : List ℕ → Read
sessions_of bs = read_from 1 [] (cut_at 10 bs)

-- the fault is what reading gives, unless memory was refused
abbrev pub Tells : TextFault → Read → Type 0
Tells (fault.Bad n k) read = read ≡ Err (n, k)
Tells fault.NoMemory read = Unit {0}

-- what came of a line that was read as this, the line of this number: the sessions with it, or its
-- fault
abbrev pub IsPlaced : List Session → ℕ → Result TextLine LineKind → List Session
    → Result (Unit {0}) TextFault → Type 0
IsPlaced old number line new result =
    let read = at_line number (placed old line) in
    MatchResult result (λ _. read ≡ Ok new) (λ fault. Tells fault read)

-- ---- looking up

-- a line's event: sessions count from 0, lines from 1
abbrev pub line_at : List Session → ℕ → ℕ → Option Event
line_at ss s l = if l == 0 then None else slice_get (lines_of (slice_get ss s)) (l - 1)

abbrev pub label_at : List Session → ℕ → Option (List ℕ)
label_at ss s = option_map (λ t. t.label) (slice_get ss s)
