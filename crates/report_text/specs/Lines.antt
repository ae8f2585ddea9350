-- The lines of a report, one by one.
use Rattle.std.specs.Prelude.{ℕ, ℤ, List, [], ◌++◌, codes, slice_get, Option, Some, None}
use Rattle.serial_spec.specs.declared.entry.Entry.{Entry}
use Rattle.line_language.specs.Printing.{spelled_number}
use Rattle.line_language.specs.Report.{line, report, spelled_entry, spelled_rows}
use Rattle.serial_spec.specs.Rows.{Rows}
use Rattle.run_reports.specs.Told.{Told}

abbrev pub row_line : List ℕ × ℤ → List ℕ
row_line r = line (r.0 ++ codes "=" ++ spelled_number r.1)

-- the line of a row, if there is one
abbrev pub row_lines : Option (List ℕ × ℤ) → List ℕ
row_lines None = []
row_lines (Some r) = row_line r

-- how a report begins, and how it ends
abbrev pub opening_text : Rows → List ℕ
opening_text rows = line (codes "open") ++ spelled_rows rows

abbrev pub ending_text : Rows → List ℕ
ending_text rows = line (codes "table") ++ spelled_rows rows ++ line (codes "end")

abbrev pub entry_line : List (List ℕ) → Entry → List ℕ
entry_line labels e = line (spelled_entry labels e.by e.event e.answer)

-- the line of an entry, if there is one
abbrev pub entry_lines : List (List ℕ) → Option Entry → List ℕ
entry_lines labels None = []
entry_lines labels (Some e) = entry_line labels e

-- the line of the entry at this place, if there is one
abbrev pub lines_at : List (List ℕ) → List Entry → ℕ → List ℕ
lines_at labels entries place = entry_lines labels (slice_get entries place)

-- the bytes of a whole report
abbrev pub spelled_report : Told → List ℕ
spelled_report r = report r.opening r.labels r.history r.table
