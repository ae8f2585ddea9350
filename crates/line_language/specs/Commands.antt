-- What a command line is read as, without its line feed: its event, or the kind of its first fault.
use Rattle.std.specs.Prelude.{ℕ, ℤ, ◌==◌, if◌then◌else◌, List, [], ◌∷◌, length, codes, Option, Some, None, Result, Ok, Err}
use Rattle.std.specs.Option.{ok_or}
use Rattle.std.specs.Str.{bytes_eq}
use Rattle.txn_names.specs.Path.{Path}
use Rattle.txn_names.specs.Groups.{group_of}
use Rattle.txn_names.specs.Reading.{name_of, key_of, label_of}
use Rattle.serial_spec.specs.declared.operation.Op.{Op}
use Rattle.serial_spec.specs.declared.event.When.{When}
use Rattle.serial_spec.specs.declared.event.When.TheVariants.{Begun, Done}
use Rattle.serial_spec.specs.declared.event.Event.{Event}
use Rattle.serial_spec.specs.declared.event.Event.TheVariants.{Begin, Access, Sum, Commit, Abort, After}
use Rattle.line_language.specs.declared.fault.LineKind.{LineKind}
use Rattle.line_language.specs.declared.fault.LineKind.TheVariants as kind
use Rattle.line_language.specs.Numbers.{number_of}
use Rattle.line_language.specs.Steps.{◌>>=◌, or_fault}
use Rattle.line_language.specs.Verbs.{operand, operation_of, with_operand}
use Rattle.line_language.specs.Words.{cut_at}

abbrev pub Words : Type 0
Words = List (List ℕ)

-- ---- the words behind the first: just so many

abbrev pub one : Words → Result (List ℕ) LineKind
one (a ∷ []) = Ok a
one ws = Err kind.Shape

abbrev pub two : Words → Result (List ℕ × List ℕ) LineKind
two [] = Err kind.Shape
two (a ∷ ws) = do
  b ← one ws
  Ok (a, b)

abbrev pub three : Words → Result (List ℕ × List ℕ × List ℕ) LineKind
three [] = Err kind.Shape
three (a ∷ ws) = do
  bc ← two ws
  Ok (a, bc.0, bc.1)

-- ---- operands

abbrev pub label_in : List ℕ → Result (List ℕ) LineKind
label_in w = or_fault kind.Label (label_of w)

abbrev pub name_in : List ℕ → Result Path LineKind
name_in w = or_fault kind.Name (name_of w)

abbrev pub key_in : List ℕ → Result (List ℕ) LineKind
key_in w = or_fault kind.Key (key_of w)

-- a bad group is told as a bad key
abbrev pub group_in : List ℕ → Result (List ℕ) LineKind
group_in w = or_fault kind.Key (group_of w)

abbrev pub number_in : List ℕ → Result ℤ LineKind
number_in w = ok_or (number_of w) kind.Number

abbrev pub when_in : List ℕ → Result When LineKind
when_in w =
    if bytes_eq w (codes "begun") then Ok Begun
    else if bytes_eq w (codes "done") then Ok Done
    else Err kind.Word

-- ---- operands from left to right, once their number is right

abbrev pub named : Words → Result Path LineKind
named ws = do
  n ← one ws
  name_in n

abbrev pub keyed : Words → Result (Path × List ℕ) LineKind
keyed ws = do
  w ← two ws
  n ← name_in w.0
  k ← key_in w.1
  Ok (n, k)

abbrev pub grouped : Words → Result (Path × List ℕ) LineKind
grouped ws = do
  w ← two ws
  n ← name_in w.0
  g ← group_in w.1
  Ok (n, g)

abbrev pub valued : Words → Result (Path × List ℕ × ℤ) LineKind
valued ws = do
  w ← three ws
  n ← name_in w.0
  k ← key_in w.1
  v ← number_in w.2
  Ok (n, k, v)

abbrev pub timed : Words → Result (Path × When) LineKind
timed ws = do
  w ← two ws
  n ← name_in w.0
  t ← when_in w.1
  Ok (n, t)

-- ---- commands

abbrev pub begin_of : Words → Result Event LineKind
begin_of ws = do
  n ← named ws
  Ok (Begin n)

-- an operation whose word is followed by a name and a key alone
abbrev pub keyed_access : Op → Words → Result Event LineKind
keyed_access o ws = do
  a ← keyed ws
  Ok (Access a.0 a.1 o)

-- and one that has a number behind these, whichever it had before
abbrev pub valued_access : Op → Words → Result Event LineKind
valued_access o ws = do
  a ← valued ws
  Ok (Access a.0 a.1 (with_operand o a.2))

abbrev pub access_by : Option ℤ → Op → Words → Result Event LineKind
access_by None o ws = keyed_access o ws
access_by (Some v) o ws = valued_access o ws

-- the access that this operation asks
abbrev pub access_of : Op → Words → Result Event LineKind
access_of o ws = access_by (operand o) o ws

abbrev pub sum_of : Words → Result Event LineKind
sum_of ws = do
  a ← grouped ws
  Ok (Sum a.0 a.1)

abbrev pub commit_of : Words → Result Event LineKind
commit_of ws = do
  n ← named ws
  Ok (Commit n)

abbrev pub abort_of : Words → Result Event LineKind
abort_of ws = do
  n ← named ws
  Ok (Abort n)

abbrev pub after_of : Words → Result Event LineKind
after_of ws = do
  a ← timed ws
  Ok (After a.0 a.1)

-- by the first word, where it is none of an operation
abbrev pub other_of : List ℕ → Words → Result Event LineKind
other_of w ws =
    if bytes_eq w (codes "begin") then begin_of ws
    else if bytes_eq w (codes "sum") then sum_of ws
    else if bytes_eq w (codes "commit") then commit_of ws
    else if bytes_eq w (codes "abort") then abort_of ws
    else if bytes_eq w (codes "after") then after_of ws
    else Err kind.Word

abbrev pub by_operation : List ℕ → Words → Option Op → Result Event LineKind
by_operation w ws None = other_of w ws
by_operation w ws (Some o) = access_of o ws

-- by the first word, of which there is one at least
abbrev pub command_of : Words → Result Event LineKind
command_of [] = Err kind.Word
command_of (w ∷ ws) = by_operation w ws (operation_of w)

-- the line is cut at each space: a space before, behind or next to another leaves a word without
-- bytes, which counts
abbrev pub event_of : List ℕ → Result Event LineKind
event_of bs = if length bs == 0 then Err kind.Empty else command_of (cut_at 32 bs)
