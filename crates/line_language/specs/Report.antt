-- The bytes of a report: the opening rows, the entries in the order in which they were made, the
-- final rows.
use Rattle.std.specs.Prelude.{ℕ, List, [], ◌∷◌, ◌++◌, codes, decimal, slice_get, unwrap_or}
use Rattle.serial_spec.specs.declared.entry.By.{By}
use Rattle.serial_spec.specs.declared.entry.By.TheVariants.{Line, Victim, Close}
use Rattle.serial_spec.specs.declared.event.Event.{Event}
use Rattle.serial_spec.specs.declared.event.Event.TheVariants.{Abort}
use Rattle.serial_spec.specs.declared.entry.Answer.{Answer}
use Rattle.serial_spec.specs.declared.entry.Entry.{Entry}
use Rattle.serial_spec.specs.History.{History, Name}
use Rattle.serial_spec.specs.Rows.{Rows}
use Rattle.txn_names.specs.Text.{spelled_name}
use Rattle.line_language.specs.Printing.{spelled_number, spelled_event, spelled_answer}

-- a line and its end
abbrev pub line : List ℕ → List ℕ
line bytes = bytes ++ 10 ∷ []

abbrev pub spelled_rows : Rows → List ℕ
spelled_rows [] = []
spelled_rows (r ∷ rs) = line (r.0 ++ codes "=" ++ spelled_number r.1) ++ spelled_rows rs

-- the name in the event of a victim or of the close
abbrev pub name_in : Event → Name
name_in (Abort t) = t
name_in e = []

abbrev pub spelled_entry : List (List ℕ) → By → Event → Answer → List ℕ
spelled_entry labels (Line s l) e a =
    unwrap_or (slice_get labels s) [] ++ codes " " ++ decimal l ++ codes " " ++ spelled_event e
    ++ codes " -> " ++ spelled_answer a
spelled_entry labels Victim e a = codes "* victim " ++ spelled_name (name_in e)
spelled_entry labels Close e a = codes "* close " ++ spelled_name (name_in e)

-- the entry's line in a report, without its line feed
abbrev pub entry_text : List (List ℕ) → Entry → List ℕ
entry_text labels e = spelled_entry labels e.by e.event e.answer

-- the oldest first
abbrev pub spelled_history : List (List ℕ) → History → List ℕ
spelled_history labels [] = []
spelled_history labels (e ∷ h) = spelled_history labels h
    ++ line (spelled_entry labels e.by e.event e.answer)

abbrev pub report : Rows → List (List ℕ) → History → Rows → List ℕ
report opening labels h table =
    line (codes "open") ++ spelled_rows opening ++ spelled_history labels h ++ line (codes "table")
    ++ spelled_rows table ++ line (codes "end")
