-- What the breaking of cycles does to the history and the tables, where there is none to break, and
-- what room it takes.
use Rattle.std.specs.Prelude.{◌≡◌, ℕ, ◌≤◌, ◌+◌, ◌*◌, List, ◌∷◌, length, Option, Some}
use Rattle.serial_spec.specs.declared.entry.Answer.TheVariants.{Done, Refused}
use Rattle.serial_spec.specs.declared.entry.Refusal.{Refusal}
use Rattle.serial_spec.specs.Allowed.{cause_at_access}
use Rattle.serial_spec.specs.declared.entry.By.{By}
use Rattle.serial_spec.specs.declared.entry.Entry.{Entry}
use Rattle.serial_spec.specs.declared.operation.Reply.{Reply}
use Rattle.serial_spec.specs.declared.target.Asked.{Asked}
use Rattle.serial_spec.specs.History.{Name, History, event_of}
use Rattle.serial_spec.specs.Legal.{AreAllowed}
use Rattle.serial_spec.specs.Rows.{Rows}
use Rattle.serial_spec.specs.Waits.{Quiet}
use Rattle.serial_spec.specs.Interleaving.{AfterVictims}
use Rattle.txn_history.specs.Recorded.{Recorded}
use Rattle.manager_core.specs.declared.accessing.Request.{Request}
use Rattle.manager_core.specs.Tables.{Tabled, HasOtherRoom, entry_of, rows_in}
use Rattle.manager_core.specs.Kept.{AreTablesOf}
use Rattle.manager_core.specs.State.{entry}

-- victims were aborted until no cycle of waits was left, and the tables are what the history says
pub record Breaks (rows : Rows) (old new : History) (tables : Tabled) : Type 0 where
  pub victims : List Name
  pub after : AfterVictims old victims new
  pub are : AreTablesOf rows new tables

-- that is what the log and the tables have now, over the same rows and the same table
pub record Settles (opening : Rows) (h : History) (log : Recorded) (old tables : Tabled)
    : Type 0 where
  pub rows : log.rows ≡ opening
  pub breaks : Breaks opening h log.entries tables
  pub table : rows_in tables ≡ rows_in old

-- an entry that was allowed, and after which the tables are these, closes no cycle
abbrev pub StaysQuiet : Rows → Entry → History → Tabled → Type 0
StaysQuiet rows e h tables = AreAllowed rows (e ∷ h) → AreTablesOf rows (e ∷ h) tables → Quiet h
    → Quiet (e ∷ h)

-- so it is with each access by which t asks this
abbrev pub ClosesNoCycle : Tabled → Name → Asked → Type 0
ClosesNoCycle tables t a = (rows : Rows) (h : History) (by : By) (reply : Reply)
    → StaysQuiet rows (entry by (event_of t a) (Done reply)) h tables

-- The entry may be added to the log, the tables have it, and no cycle of waits stood before it.
-- There is room for it, to abort all that wait, and for so many pairs as are looked at.
pub record IsReadyFor (log : Recorded) (e : Entry) (tables : Tabled) (pairs : ℕ) : Type 0 where
  pub allowed : AreAllowed log.rows (e ∷ log.entries)
  pub are : AreTablesOf log.rows (e ∷ log.entries) tables
  pub quiet : Quiet log.entries
  pub room : length tables.waits.waits + 1 ≤ log.room
  pub marks_room : length tables.waits.waits ≤ tables.marks.room
  pub work_room : length tables.waits.waits * length tables.waits.waits ≤ pairs

-- why what a line asks is refused, where it is
abbrev pub cause_of_request : Recorded → Request → Option Refusal
cause_of_request log r = cause_at_access log.rows log.entries r.by r.name.now r.asked.now

-- the log has one entry more: it is refused, by the first cause that holds
pub record EntersRefusal (old new : Recorded) (r : Request) : Type 0 where
  pub refusal : Refusal
  pub cause : Some refusal ≡ cause_of_request old r
  pub rows : new.rows ≡ old.rows
  pub entries : new.entries ≡ entry_of r (Refused refusal) ∷ old.entries

-- the log and the tables say the same as before, with other room
pub record HasMadeRoom (log0 log : Recorded) (old new : Tabled) : Type 0 where
  pub rows : log.rows ≡ log0.rows
  pub entries : log.entries ≡ log0.entries
  pub same : HasOtherRoom old new
  pub waits : new.waits ≡ old.waits

-- there is room for an entry after which one more may wait, and to break the cycles that come of it
pub record HasRoomToStep (log : Recorded) (tables : Tabled) (pairs : ℕ) : Type 0 where
  pub room : length tables.waits.waits + 2 ≤ log.room
  pub marks_room : length tables.waits.waits + 1 ≤ tables.marks.room
  pub work_room : (length tables.waits.waits + 1) * (length tables.waits.waits + 1) ≤ pairs
