-- The first pass over a report: its lines one by one, each of which may stand where it stands.
use Rattle.std.specs.Prelude.{ℕ, ℤ, zero, suc, ◌+◌, ◌==◌, ◌&&◌, ◌||◌, nat_lt, Bool, true, false, not, if◌then◌else◌, List, [], ◌∷◌, ◌++◌, length, position, codes, Option, Some, None, is_some, is_none, unwrap_or, Result, Ok, Err}
use Rattle.std.specs.List.{list_any}
use Rattle.std.specs.Option.{ok_or}
use Rattle.std.specs.Str.{bytes_eq}
use Rattle.txn_names.specs.Path.{label_eq, parent}
use Rattle.serial_spec.specs.declared.limits.TheConstants.{MOST_ROWS, MOST_SESSIONS, MOST_TRANSACTIONS}
use Rattle.serial_spec.specs.declared.entry.By.{By}
use Rattle.serial_spec.specs.declared.entry.By.TheVariants as by
use Rattle.serial_spec.specs.declared.event.Event.{Event}
use Rattle.serial_spec.specs.declared.event.Event.TheVariants.{Abort}
use Rattle.serial_spec.specs.declared.entry.Answer.{Answer}
use Rattle.serial_spec.specs.declared.entry.Entry.{Entry}
use Rattle.line_language.specs.Printing.{spelled_event}
use Rattle.serial_spec.specs.Rows.{Rows}
use Rattle.serial_spec.specs.Places.{is_below}
use Rattle.serial_spec.specs.History.{History, Effect, Begins, Accesses, Commits, Aborts, Nothing, effect, status, is_absent, is_active, begun}
use Rattle.serial_spec.specs.Waits.{is_waits}
use Rattle.serial_spec.specs.Allowed.{has_live_child}
use Rattle.serial_spec.specs.Legal.{is_top_level, first_live}
use Rattle.serial_spec.specs.Interleaving.{answered, closing, victim}
use Rattle.line_language.specs.Steps.{◌>>=◌}
use Rattle.line_language.specs.Words.{cut_at}
use Rattle.line_language.specs.Reading.{entry_of, row_of}
use Rattle.line_language.specs.declared.entry.ReportEntry.{ReportEntry}
use Rattle.line_language.specs.declared.entry.ReportEntry.TheVariants as told

-- which part of a report the next line is of
pub data Part : Type 0 where
  Start : Part
  Opening : Part
  Entries : Part
  Final : Part
  Ended : Part

-- what the lines so far said
pub record Read : Type 0 where
  pub part : Part
  pub opening : Rows
  -- in the order in which they are first named: a session's number is the place of its label
  pub labels : List (List ℕ)
  -- the newest entry first
  pub history : History
  pub table : Rows

abbrev pub unread : Read
unread = record { part = Start; opening = []; labels = []; history = []; table = [] }

-- ---- rows

-- the key of the last row, if there is one, is below this one
abbrev pub is_past : Rows → List ℕ → Bool
is_past [] k = true
is_past (r ∷ []) k = is_below r.0 k
is_past (r ∷ s ∷ rows) k = is_past (s ∷ rows) k

abbrev pub may_add_row : Rows → List ℕ → Bool
may_add_row rows k = nat_lt (length rows) MOST_ROWS && is_past rows k

-- ---- entries

abbrev pub session_of : List (List ℕ) → List ℕ → ℕ
session_of labels l = unwrap_or (position (label_eq l) labels) (length labels)

abbrev pub with_label : List (List ℕ) → List ℕ → List (List ℕ)
with_label labels l = if is_some (position (label_eq l) labels) then labels else labels ++ l ∷ []

abbrev pub labels_after : List (List ℕ) → ReportEntry → List (List ℕ)
labels_after labels (told.Line l n e a) = with_label labels l
labels_after labels x = labels

abbrev pub entry_in : List (List ℕ) → ReportEntry → Entry
entry_in labels (told.Line l n e a) =
    record { by = by.Line (session_of labels l) n; event = e; answer = a }
entry_in labels (told.Victim t) = victim t
entry_in labels (told.Close t) = closing t

abbrev pub is_close : By → Bool
is_close by.Close = true
is_close b = false

-- behind an abort of the close no other entry stands
abbrev pub is_in_time : History → By → Bool
is_in_time h b = is_close b || not (list_any (λ e. is_close e.by) h)

-- the event with which the session's next line waits, if it does
abbrev pub waiting_by : By → Event → Answer → ℕ → Option Event → Option Event
waiting_by (by.Line u n) e a s before = if s == u then (if is_waits a then Some e else None)
    else before
waiting_by b e a s before = before

abbrev pub waiting : History → ℕ → Option Event
waiting [] s = None
waiting (e ∷ h) s = waiting_by e.by e.event e.answer s (waiting h s)

-- a line that waits is the next to have an entry of its session, which is its answer
abbrev pub goes_on : Option Event → Event → Answer → Bool
goes_on None e a = true
goes_on (Some w) e a = bytes_eq (spelled_event w) (spelled_event e) && not (is_waits a)

-- of one of the sessions, and of its next line
abbrev pub is_next : History → By → Event → Answer → Bool
is_next h (by.Line s n) e a = nat_lt s MOST_SESSIONS && n == suc (answered h s)
    && goes_on (waiting h s) e a
is_next h b e a = true

-- what was done could be done: by one that is live and no orphan, or below such a one
abbrev pub may_do : History → Effect → Bool
may_do h (Begins t) = is_absent (status h t) && is_active h (parent t)
    && nat_lt (length (begun h)) MOST_TRANSACTIONS
may_do h (Accesses t a r) = is_active h t
may_do h (Commits t) = is_active h t && not (has_live_child h t)
may_do h (Aborts t) = is_active h t
may_do h Nothing = true

-- the close aborts top-level transactions
abbrev pub may_close : By → Event → Bool
may_close by.Close (Abort t) = is_top_level t
may_close b e = true

abbrev pub may_follow : History → Entry → Bool
may_follow h e = is_in_time h e.by && is_next h e.by e.event e.answer && may_do h (effect e)
    && may_close e.by e.event

-- ---- the end of the entries

abbrev pub none_waits : History → ℕ → Bool
none_waits h zero = true
none_waits h (suc n) = is_none (waiting h n) && none_waits h n

abbrev pub may_end : Read → Bool
may_end r = is_none (first_live r.history (begun r.history))
    && none_waits r.history (length r.labels)

-- ---- lines

abbrev pub at_part : Part → Read → Read
at_part p r =
    record {
      part = p;
      opening = r.opening;
      labels = r.labels;
      history = r.history;
      table = r.table;
    }

abbrev pub with_opening : Read → List ℕ × ℤ → Read
with_opening r row =
    record {
      part = Opening;
      opening = r.opening
          ++ row ∷ [];
      labels = r.labels;
      history = r.history;
      table = r.table;
    }

abbrev pub with_entry : Read → ReportEntry → Read
with_entry r x =
    record {
      part = Entries;
      opening = r.opening;
      labels = labels_after r.labels x;
      history = entry_in r.labels x ∷ r.history;
      table = r.table;
    }

abbrev pub with_row : Read → List ℕ × ℤ → Read
with_row r row =
    record {
      part = Final;
      opening = r.opening;
      labels = r.labels;
      history = r.history;
      table = r.table ++ row ∷ [];
    }

abbrev pub entry_next : Read → Option ReportEntry → Option Read
entry_next r None = None
entry_next r (Some x) = if may_follow r.history (entry_in r.labels x) then Some (with_entry r x)
    else None

-- an entry, or the line `table`
abbrev pub middle_next : Read → List ℕ → Option Read
middle_next r bs =
    if bytes_eq bs (codes "table") then (if may_end r then Some (at_part Final r) else None)
    else entry_next r (entry_of bs)

abbrev pub opening_next : Read → List ℕ → Option (List ℕ × ℤ) → Option Read
opening_next r bs None = middle_next r bs
opening_next r bs (Some row) = if may_add_row r.opening row.0 then Some (with_opening r row)
    else None

abbrev pub final_next : Read → Option (List ℕ × ℤ) → Option Read
final_next r None = None
final_next r (Some row) = if may_add_row r.table row.0 then Some (with_row r row) else None

abbrev pub next_at : Part → Read → List ℕ → Option Read
next_at Start r bs = if bytes_eq bs (codes "open") then Some (at_part Opening r) else None
next_at Opening r bs = opening_next r bs (row_of bs)
next_at Entries r bs = middle_next r bs
next_at Final r bs = if bytes_eq bs (codes "end") then Some (at_part Ended r)
    else final_next r (row_of bs)
next_at Ended r bs = None

-- what is read with one line more, unless that line may not stand there
abbrev pub next : Read → List ℕ → Option Read
next r bs = next_at r.part r bs

abbrev pub has_ended : Part → Bool
has_ended Ended = true
has_ended p = false

-- the parts between line feeds, from line n on: the report ends with the line feed of its line
-- `end`
abbrev pub read_from : ℕ → Read → List (List ℕ) → Result Read ℕ
read_from n r [] = Err n
read_from n r (p ∷ []) = if length p == 0 && has_ended r.part then Ok r else Err n
read_from n r (p ∷ q ∷ ps) = do
  more ← ok_or (next r p) n
  read_from (n + 1) more (q ∷ ps)

-- the report that was read, or its first line that may not stand where it stands
abbrev pub read : List ℕ → Result Read ℕ
read bs = read_from 1 unread (cut_at 10 bs)
