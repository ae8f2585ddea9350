-- What is kept of the lines of a report that were read, and that it is what they said.
use Rattle.std.specs.Prelude.{◌≡◌, ℕ, ℤ, ◌+◌, Bool, true, false, List, [], ◌∷◌, ◌++◌, ◌&&◌, if◌then◌else◌, nat_lt, length, map, Option, Some, None}
use Rattle.std.specs.List.{list_any}
use Rattle.std.specs.Map.{keys_of}
use Rattle.serial_spec.specs.declared.operation.Reply.TheVariants.{Ok}
use Rattle.serial_spec.specs.declared.entry.Answer.{Answer}
use Rattle.serial_spec.specs.declared.entry.Answer.TheVariants.{Done}
use Rattle.serial_spec.specs.declared.event.Event.{Event}
use Rattle.serial_spec.specs.declared.event.Event.TheVariants.{Access, Sum}
use Rattle.serial_spec.specs.declared.limits.TheConstants.{MOST_ROWS}
use Rattle.serial_spec.specs.Places.{is_below}
use Rattle.serial_spec.specs.Rows.{IsRising, Rows, value_in}
use Rattle.line_language.specs.declared.entry.ReportEntry.{ReportEntry}
use Rattle.report_check.specs.Passing.{Part, Start, Opening, Entries, Final, Ended, Read, entry_in, is_close, may_add_row, may_follow, with_entry, with_opening, with_row}
use Rattle.report_tables.specs.Chained.{Known, known_by}
use Rattle.report_tables.specs.Spoken.{AreSessionsOf}
use Rattle.report_tables.specs.Told.{AreTransactionsOf}
use Rattle.report_tables.specs.Valued.{Values, value_at}
use Rattle.report_judge.specs.declared.seen.Part.{Part as KeptPart}
use Rattle.report_judge.specs.declared.seen.Part.TheVariants as kept
use Rattle.report_judge.specs.declared.seen.Seen.{Seen}

-- the answer is that it was done, with the reply ok
abbrev pub is_done_ok : Answer → Bool
is_done_ok (Done Ok) = true
is_done_ok a = false

-- the event is an access, of a key or of a group
abbrev pub is_access : Event → Bool
is_access (Access t k o) = true
is_access (Sum t g) = true
is_access e = false

-- the part of a report that is meant
abbrev pub part_of : KeptPart → Part
part_of kept.Start = Start
part_of kept.Opening = Opening
part_of kept.Entries = Entries
part_of kept.Final = Final
part_of kept.Ended = Ended

-- the rows, each of them with its value
abbrev pub opened : Rows → Values
opened rows = map (λ r. (r.0, Some r.1)) rows

-- the keys and the groups that were named
abbrev pub known : Seen → Known
known s = known_by (keys_of s.values.entries) (keys_of s.groups.entries)

-- what is kept, the part left aside
pub record IsKept (r : Read) (s : Seen) : Type 0 where
  pub rising : IsRising r.opening
  pub values : (k : List ℕ) → value_at s.values.entries k ≡ value_in r.opening k
  pub sessions : AreSessionsOf r.labels r.history s.sessions.entries
  pub transactions : AreTransactionsOf (1 + length r.opening) (known s) r.history s.transactions
  pub closing : s.closing ≡ list_any (λ e. is_close e.by) r.history
  pub table : s.table.items ≡ r.table

-- what has not come yet in each part
abbrev pub IsEarly : Part → Read → Values → Type 0
IsEarly Start r es = (r.history ≡ []) × (r.table ≡ []) × (es ≡ opened r.opening) × (r.opening ≡ [])
IsEarly Opening r es = (r.history ≡ []) × (r.table ≡ []) × (es ≡ opened r.opening)
IsEarly Entries r es = r.table ≡ []
IsEarly Final r es = Unit {0}
IsEarly Ended r es = Unit {0}

-- what is kept, with its part, says what was read
pub record IsSeen (r : Read) (s : Seen) : Type 0 where
  pub part : part_of s.part ≡ r.part
  pub early : IsEarly r.part r s.values.entries
  pub kept : IsKept r s

-- what the number of the next line is without the rows and entries that were read
abbrev pub lines_before : Part → ℕ
lines_before Start = 1
lines_before Opening = 2
lines_before Entries = 2
lines_before Final = 3
lines_before Ended = 4

-- the number of the next line
abbrev pub line_of : Read → ℕ
line_of r = lines_before r.part + length r.opening + length r.history + length r.table

-- it is told whether the entry may follow, and if so it is kept
abbrev pub Follows : Bool → Read → ReportEntry → Seen → Type 0
Follows true r x s =
    (may_follow r.history (entry_in r.labels x) ≡ true) × IsKept (with_entry r x) s
Follows false r x s = may_follow r.history (entry_in r.labels x) ≡ false

-- it is told whether the line may stand where it stands, and if so what is read with it is seen
abbrev pub Steps : Bool → Option Read → Seen → Type 0
Steps true None s = ⊥
Steps true (Some r) s = IsSeen r s
Steps false o s = o ≡ None

-- an entry may come next
abbrev pub IsMiddle : Part → Type 0
IsMiddle Opening = Unit {0}
IsMiddle Entries = Unit {0}
IsMiddle p = ⊥

-- an entry comes at this line, behind what is kept, where its parts are such as are read
abbrev pub FollowsAt : Type 0 → ℕ → ReportEntry → Seen → Seen → Bool → Type 0
FollowsAt IsRead at x old new ok = (r : Read) → IsKept r old
    → at ≡ 2 + length r.opening + length r.history → IsRead → Follows ok r x new

-- a line comes behind what is seen of the opening rows or of the entries, and is read so
abbrev pub StepsInMiddle : ℕ → (Read → Option Read) → Seen → Seen → Bool → Type 0
StepsInMiddle at next old new ok = (r : Read) → IsSeen r old → IsMiddle r.part → at ≡ line_of r
    → Steps ok (next r) new

-- one comes behind what is seen of this part
abbrev pub StepsIn : Part → (Read → Option Read) → Seen → Seen → Bool → Type 0
StepsIn part next old new ok = (r : Read) → IsSeen r old → r.part ≡ part → Steps ok (next r) new

-- an opening row, or a final one, with this key and value, if it may come next
abbrev pub opening_row : List ℕ → ℤ → Read → Option Read
opening_row k v r = if may_add_row r.opening k then Some (with_opening r (k, v)) else None

abbrev pub final_row : List ℕ → ℤ → Read → Option Read
final_row k v r = if may_add_row r.table k then Some (with_row r (k, v)) else None

-- ---- rows

-- the key comes behind the last one, if there was one
abbrev pub is_past_key : Option (List ℕ) → List ℕ → Bool
is_past_key None k = true
is_past_key (Some q) k = is_below q k

-- a row with this key may come behind so many rows: there is room for one more
abbrev pub may_come : ℕ → Option (List ℕ) → List ℕ → Bool
may_come rows last k = nat_lt rows MOST_ROWS && is_past_key last k

-- it is told whether the row may come next, and if so it is the last
abbrev pub AddsRow : Bool → Rows → List ℕ → ℤ → Rows → Type 0
AddsRow true old k v new = (may_add_row old k ≡ true) × (new ≡ old ++ (k, v) ∷ [])
AddsRow false old k v new = may_add_row old k ≡ false

-- the same of a row of the opening, of which the values of the keys are kept
abbrev pub Opens : Bool → Rows → List ℕ → ℤ → Values → Type 0
Opens true rows k v es = (may_add_row rows k ≡ true) × (es ≡ opened (rows ++ (k, v) ∷ []))
Opens false rows k v es = may_add_row rows k ≡ false
