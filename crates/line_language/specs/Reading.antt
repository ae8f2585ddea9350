-- What the bytes of a line are read as: its entry, or its row. Bytes that are read as nothing spell
-- none.
use Rattle.std.specs.Prelude.{ℕ, ℤ, pos, negsuc, ◌-◌, ◌==◌, ◌&&◌, if◌then◌else◌, nat_le, List, [], ◌∷◌, length, take, drop, codes, Option, Some, None}
use Rattle.std.specs.Option.{option_map}
use Rattle.std.specs.Result.{result_ok}
use Rattle.std.specs.Str.{bytes_eq}
use Rattle.txn_names.specs.Path.{Path}
use Rattle.txn_names.specs.Reading.{key_of, label_of, name_of}
use Rattle.serial_spec.specs.declared.limits.TheConstants.{MOST_LINES}
use Rattle.serial_spec.specs.declared.operation.Reply.TheVariants.{Ok, Value, Absent, New, Overflow}
use Rattle.serial_spec.specs.declared.entry.Refusal.TheVariants.{Orphan}
use Rattle.serial_spec.specs.declared.entry.Answer.{Answer}
use Rattle.serial_spec.specs.declared.entry.Answer.TheVariants.{Done, Waits, Stuck, Refused}
use Rattle.line_language.specs.Commands.{event_of}
use Rattle.line_language.specs.Numbers.{number_of}
use Rattle.line_language.specs.Words.{before, behind}
use Rattle.line_language.specs.Refusals.{refusal_of}
use Rattle.line_language.specs.Answers.{may_answer}
use Rattle.line_language.specs.declared.entry.ReportEntry.{ReportEntry}
use Rattle.line_language.specs.declared.entry.ReportEntry.TheVariants.{Line, Victim, Close}

-- ---- answers

abbrev pub one_word : List ℕ → Option Answer
one_word w =
    if bytes_eq w (codes "ok") then Some (Done Ok)
    else if bytes_eq w (codes "none") then Some (Done Absent)
    else if bytes_eq w (codes "overflow") then Some (Done Overflow)
    else if bytes_eq w (codes "waits") then Some Waits
    else if bytes_eq w (codes "stuck") then Some Stuck
    else None

abbrev pub orphan_of : List ℕ → Option Answer
orphan_of w = option_map (λ t. Refused (Orphan t)) (result_ok (name_of w))

abbrev pub two_words : List ℕ → List ℕ → Option Answer
two_words w r =
    if bytes_eq w (codes "value") then option_map (λ v. Done (Value v)) (number_of r)
    else if bytes_eq w (codes "new") then option_map (λ v. Done (New v)) (number_of r)
    else if bytes_eq w (codes "refused") then option_map Refused (refusal_of r)
    else if bytes_eq w (codes "orphan") then orphan_of r
    else None

abbrev pub words_of : List ℕ → Option (List ℕ) → Option Answer
words_of w None = one_word w
words_of w (Some r) = two_words w r

abbrev pub answer_of : List ℕ → Option Answer
answer_of bs = words_of (before 32 bs) (behind 32 bs)

-- ---- entries

infixl 10 ◌>>=◌
abbrev pub ◌>>=◌ : {A B : Type 0} → Option A → (A → Option B) → Option B
None >>= f = None
Some x >>= f = f x

-- what stands behind a space at the front
abbrev pub behind_space : List ℕ → Option (List ℕ)
behind_space [] = None
behind_space (b ∷ bs) = if b == 32 then Some bs else None

-- what stands before the two bytes at the end, if these are a space and a `-`
abbrev pub before_dash : List ℕ → Option (List ℕ)
before_dash bs = if bytes_eq (drop (length bs - 2) bs) (codes " -")
    then Some (take (length bs - 2) bs) else None

-- both sides of the first arrow, which has a space on each side
abbrev pub sides_of : List ℕ → Option (List ℕ × List ℕ)
sides_of bs = do
  text ← before_dash (before 62 bs)
  rest ← behind 62 bs
  answer ← behind_space rest
  Some (text, answer)

-- lines count from 1
abbrev pub count_of : ℤ → Option ℕ
count_of (pos n) = if nat_le 1 n && nat_le n MOST_LINES then Some n else None
count_of (negsuc n) = None

-- what a line asked, and its answer, which has to be one that it may have
abbrev pub told_of : List ℕ → ℕ → List ℕ → Option ReportEntry
told_of l n bs = do
  s ← sides_of bs
  e ← result_ok (event_of s.0)
  a ← answer_of s.1
  if may_answer e a then Some (Line l n e a) else None

-- the label, the number of the line and the rest
abbrev pub line_entry_of : List ℕ → Option ReportEntry
line_entry_of bs = do
  l ← result_ok (label_of (before 32 bs))
  r ← behind 32 bs
  z ← number_of (before 32 r)
  n ← count_of z
  t ← behind 32 r
  told_of l n t

-- the word that says who aborted, and the name
abbrev pub abort_by : List ℕ → Path → Option ReportEntry
abort_by w t =
    if bytes_eq w (codes "victim") then Some (Victim t)
    else if bytes_eq w (codes "close") then Some (Close t)
    else None

abbrev pub abort_of : List ℕ → Option ReportEntry
abort_of bs = do
  r ← behind 32 bs
  t ← result_ok (name_of r)
  abort_by (before 32 bs) t

abbrev pub star_entry_of : List ℕ → Option ReportEntry
star_entry_of bs = do
  r ← behind 32 bs
  abort_of r

abbrev pub entry_of : List ℕ → Option ReportEntry
entry_of bs = if bytes_eq (before 32 bs) (codes "*") then star_entry_of bs else line_entry_of bs

-- ---- rows

abbrev pub row_of : List ℕ → Option (List ℕ × ℤ)
row_of bs = do
  k ← result_ok (key_of (before 61 bs))
  r ← behind 61 bs
  v ← number_of r
  Some (k, v)
