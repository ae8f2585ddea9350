-- Which line a verdict of no names, as statements.
use Rattle.std.specs.Prelude.{◌≡◌, ◌≤◌, ◌+◌, ℕ, suc, List, [], ◌∷◌, ◌++◌, length, take, slice_get, Ok}
use Rattle.std.specs.List.{AllByRecursion}
use Rattle.serial_spec.specs.declared.entry.Entry.{Entry}
use Rattle.serial_spec.specs.History.{Accesses, History, Name, effect}
use Rattle.serial_spec.specs.Items.{items}
use Rattle.serial_spec.specs.Rows.{IsRising, Rows, value_in}
use Rattle.serial_spec.specs.Serial.{Map, Replies, Runs, reply_at}
use Rattle.report_check.specs.Passing.{Read, read}
use Rattle.report_check.specs.Serving.{PlacedAccess, accesses_of, map_behind}
use Rattle.report_check.specs.Verdicts.{HasVerdict, served}
use Rattle.report_check.specs.declared.verdict.Verdict.TheVariants.{No}

-- ---- replies

-- an entry tells of the access, in the line so far behind the ones before the entries
pub record IsTold (n : ℕ) (h : History) (a : PlacedAccess) : Type 0 where
  pub newer : History
  pub entry : Entry
  pub older : History
  pub whole : h ≡ newer ++ entry ∷ older
  pub who : Name
  pub tells : effect entry ≡ Accesses who a.asked a.reply
  pub line : a.line ≡ n + suc (length older)

abbrev pub AccessesAreTold : Type 0
AccessesAreTold = (n : ℕ) (h : History) (t : Name)
    → AllByRecursion (λ a. IsTold n h a) (accesses_of n h t)

-- one of these accesses, the newest of which stands first, and its reply is not the one that is
-- due where it stands
pub record IsWrong (m : Map) (all : List PlacedAccess) (a : PlacedAccess) : Type 0 where
  pub newer : List PlacedAccess
  pub older : List PlacedAccess
  pub whole : all ≡ newer ++ a ∷ older
  pub wrong : ¬ (a.reply ≡ reply_at (map_behind m older) a.asked)

-- the line has a wrong reply, and no line before it has one
pub record IsFirstWrong (m : Map) (all : List PlacedAccess) (n : ℕ) : Type 0 where
  pub access : PlacedAccess
  pub wrong : IsWrong m all access
  pub line : access.line ≡ n
  pub first : (a : PlacedAccess) → IsWrong m all a → n ≤ a.line

abbrev pub NamesTheReply : Type 0
NamesTheReply =
    (bs : List ℕ) (r : Read) (n : ℕ) → read bs ≡ Ok r → HasVerdict bs (No n)
    → ¬ Replies (value_in r.opening) (items r.history [])
    → IsFirstWrong (value_in r.opening) (served r) n

-- ---- rows

-- the rows before this place are the same, and those at it are not, or only one list has one
pub record IsFirstDifferent (place : ℕ) (rows due : Rows) : Type 0 where
  pub before : take place rows ≡ take place due
  pub here : ¬ (slice_get rows place ≡ slice_get due place)

-- The line is that of the first of the final rows that is not the one due. Before these rows stand
-- `open`, the opening rows, the entries and `table`
pub record IsAtRow (r : Read) (n : ℕ) : Type 0 where
  pub due : Rows
  pub rising : IsRising due
  pub runs : Runs (value_in r.opening) (items r.history []) (value_in due)
  pub place : ℕ
  pub line : n ≡ 3 + length r.opening + length r.history + place
  pub first : IsFirstDifferent place r.table due

abbrev pub NamesTheRow : Type 0
NamesTheRow =
    (bs : List ℕ) (r : Read) (n : ℕ) → read bs ≡ Ok r → HasVerdict bs (No n)
    → Replies (value_in r.opening) (items r.history []) → IsAtRow r n
