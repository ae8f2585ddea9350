-- Reading and spelling fit: bytes are read as a number, a command, an entry or a row exactly where
-- they spell it, as statements. So each has one spelling.
use Rattle.std.specs.Prelude.{◌≡◌, ◌↔◌, ℕ, ℤ, IsTrue, List, ◌++◌, codes, Some, Ok}
use Rattle.txn_names.specs.Text.{IsKey}
use Rattle.serial_spec.specs.declared.event.Event.{Event}
use Rattle.serial_spec.specs.Operations.{is_i64}
use Rattle.line_language.specs.Printing.{spelled_event, spelled_number}
use Rattle.line_language.specs.Numbers.{number_of}
use Rattle.line_language.specs.Commands.{event_of}
use Rattle.line_language.specs.Events.{IsEvent}
use Rattle.line_language.specs.Entries.{IsReportEntry, spelled_report_entry}
use Rattle.line_language.specs.Reading.{entry_of, row_of}
use Rattle.line_language.specs.declared.entry.ReportEntry.{ReportEntry}

abbrev pub NumbersReadBack : Type 0
NumbersReadBack = (bs : List ℕ) (z : ℤ)
    → (number_of bs ≡ Some z) ↔ (IsTrue (is_i64 z) × (bs ≡ spelled_number z))

abbrev pub LinesReadBack : Type 0
LinesReadBack = (bs : List ℕ) (e : Event)
    → (event_of bs ≡ Ok e) ↔ (IsEvent e × (bs ≡ spelled_event e))

abbrev pub EntriesReadBack : Type 0
EntriesReadBack = (bs : List ℕ) (x : ReportEntry)
    → (entry_of bs ≡ Some x) ↔ (IsReportEntry x × (bs ≡ spelled_report_entry x))

abbrev pub RowsReadBack : Type 0
RowsReadBack = (bs : List ℕ) (k : List ℕ) (v : ℤ)
    → (row_of bs ≡ Some (k, v)) ↔ (IsKey k × IsTrue (is_i64 v)
    × (bs ≡ k ++ codes "=" ++ spelled_number v))
