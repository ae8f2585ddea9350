-- Where a request's line goes, and why it is not taken where it is not.
use Rattle.std.specs.Prelude.{ℕ, nat_lt, if◌then◌else◌, List, length, Option, Some, None, Result, Ok, Err, slice_get, unwrap_or}
use Rattle.serial_spec.specs.declared.event.Event.{Event}
use Rattle.serial_spec.specs.declared.limits.TheConstants.{MOST_LINES, MOST_SESSIONS}
use Rattle.serial_spec.specs.History.{History}
use Rattle.serial_spec.specs.Interleaving.{Session, answered, lines_of}
use Rattle.line_language.specs.declared.fault.LineKind.{LineKind}
use Rattle.line_language.specs.declared.fault.LineKind.TheVariants as kind
use Rattle.session_text.specs.Growing.{place_of, with_line_of}
use Rattle.session_text.specs.Requests.{request_of}
use Rattle.session_text.specs.Texts.{with_header}

-- ---- where it goes

-- the number of the session with this label: a new one is behind the others
abbrev pub number_of : List ℕ → List Session → ℕ
number_of l ss = unwrap_or (place_of l ss) (length ss)

-- the sessions with one of this label, whose place is this, if it is there
abbrev pub with_session : Option ℕ → List Session → List ℕ → List Session
with_session None ss l = with_header ss l
with_session (Some s) ss l = ss

-- and with a line more of it
abbrev pub with_request : List Session → List ℕ → Event → List Session
with_request ss l e = with_line_of (with_session (place_of l ss) ss l) (number_of l ss) e

-- ---- why it is not taken

-- of a session with so many lines so many are answered: it has one line at a time, and no more than
-- there may be
abbrev pub fault_behind : ℕ → ℕ → Option LineKind
fault_behind done lines =
    if nat_lt done lines then Some kind.Turn
    else if nat_lt lines MOST_LINES then None
    else Some kind.Limit

-- of the session at this place, or of a new one
abbrev pub fault_at : List Session → History → Option ℕ → Option LineKind
fault_at ss h None = if nat_lt (length ss) MOST_SESSIONS then None else Some kind.Limit
fault_at ss h (Some s) = fault_behind (answered h s) (length (lines_of (slice_get ss s)))

-- of what the bytes are read as
abbrev pub fault_of : List Session → History → Result (List ℕ × Event) LineKind → Option LineKind
fault_of ss h (Err k) = Some k
fault_of ss h (Ok r) = fault_at ss h (place_of r.0 ss)

abbrev pub request_fault : List Session → History → List ℕ → Option LineKind
request_fault ss h bs = fault_of ss h (request_of bs)
