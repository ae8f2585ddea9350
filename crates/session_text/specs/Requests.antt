-- What a request line is read as, without its line feed: the label of a session and the event of a
-- line of it, or the kind of its first fault.
use Rattle.std.specs.Prelude.{◌≡◌, ◌↔◌, ℕ, ◌==◌, if◌then◌else◌, List, ◌∷◌, ◌++◌, length, Option, Result, Ok, Err}
use Rattle.std.specs.Option.{ok_or}
use Rattle.txn_names.specs.Text.{IsLabel}
use Rattle.line_language.specs.Printing.{spelled_event}
use Rattle.serial_spec.specs.declared.event.Event.{Event}
use Rattle.serial_spec.specs.declared.event.Event.TheVariants.{After}
use Rattle.line_language.specs.declared.fault.LineKind.{LineKind}
use Rattle.line_language.specs.declared.fault.LineKind.TheVariants as kind
use Rattle.line_language.specs.Commands.{event_of}
use Rattle.line_language.specs.Events.{IsEvent}
use Rattle.line_language.specs.Steps.{◌>>=◌}
use Rattle.line_language.specs.Commands.{label_in}
use Rattle.line_language.specs.Words.{before, behind}

-- who sees replies needs no conditions
abbrev pub unconditional : Event → Result Event LineKind
unconditional (After n t) = Err kind.Word
unconditional e = Ok e

-- by the first word, and what stands behind the space, where there is one
abbrev pub request_by : List ℕ → Option (List ℕ) → Result (List ℕ × Event) LineKind
request_by word left = do
  l ← label_in word
  text ← ok_or left kind.Shape
  e ← event_of text
  asked ← unconditional e
  Ok (l, asked)

abbrev pub request_of : List ℕ → Result (List ℕ × Event) LineKind
request_of bs = if length bs == 0 then Err kind.Empty else request_by (before 32 bs) (behind 32 bs)

-- a label, a space and a command without a condition
pub record IsRequest (bs l : List ℕ) (e : Event) : Type 0 where
  pub label : IsLabel l
  pub event : IsEvent e
  pub asked : unconditional e ≡ Ok e
  pub spelled : bs ≡ l ++ 32 ∷ spelled_event e

-- bytes are read as a request exactly where they spell it
abbrev pub RequestsReadBack : Type 0
RequestsReadBack =
    (bs l : List ℕ) (e : Event) → (request_of bs ≡ Ok (l, e)) ↔ IsRequest bs l e
