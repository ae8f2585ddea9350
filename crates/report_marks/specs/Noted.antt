-- What is kept of the lines of a report, and that it is what they said.
use Rattle.std.specs.Prelude.{◌≡◌, ℕ, List, [], ◌∷◌, ◌++◌, length, position, Option, Some, Ok}
use Rattle.txn_names.specs.Path.{path_eq}
use Rattle.serial_spec.specs.declared.event.Event.{Event}
use Rattle.serial_spec.specs.declared.entry.Answer.{Answer}
use Rattle.serial_spec.specs.History.{Name}
use Rattle.line_language.specs.declared.entry.ReportEntry.{ReportEntry}
use Rattle.line_language.specs.declared.entry.ReportEntry.TheVariants as told
use Rattle.line_language.specs.Words.{cut_at}
use Rattle.report_check.specs.Passing.{Part, Start, Opening, Entries, Final, Ended, Read, read_from, session_of, with_label}
use Rattle.report_marks.specs.Marks.{abort_deed, deed_of, marks, names, with_begun}
use Rattle.report_marks.specs.declared.deeds.Doer.{Doer}
use Rattle.report_marks.specs.declared.deeds.Doer.TheVariants as doer
use Rattle.report_marks.specs.declared.noting.Notes.{Notes}
use Rattle.report_marks.specs.declared.noting.Stage.{Stage}
use Rattle.report_marks.specs.declared.noting.Stage.TheVariants as stage

-- what is kept is what was read
pub record IsNoted (r : Read) (x : Notes) : Type 0 where
  pub labels : x.labels.keys ≡ r.labels
  pub names : x.names.keys ≡ names r.history
  pub marks : x.marks.items ≡ marks r.history
  pub rows : x.rows ≡ length r.opening

-- the part of a report that is meant; behind the entries nothing more is kept
abbrev pub stage_of : Part → Stage
stage_of Start = stage.Start
stage_of Opening = stage.Rows
stage_of Entries = stage.Entries
stage_of Final = stage.Behind
stage_of Ended = stage.Behind

-- a line's answer or wait more is kept
pub record NotesLine (old : Notes) (l : List ℕ) (e : Event) (a : Answer) (new : Notes)
    : Type 0 where
  pub labels : new.labels.keys ≡ with_label old.labels.keys l
  pub names : new.names.keys ≡ with_begun old.names.keys e a
  pub marks : new.marks.items ≡ old.marks.items
      ++ record {
        by = doer.Session (session_of old.labels.keys l);
        deed = deed_of new.names.keys e a;
      } ∷ []
  pub rows : new.rows ≡ old.rows

-- an abort more is kept that no line asked for
pub record NotesAbort (old : Notes) (by : Doer) (t : Name) (new : Notes) : Type 0 where
  pub labels : new.labels.keys ≡ old.labels.keys
  pub names : new.names.keys ≡ old.names.keys
  pub marks : new.marks.items ≡ old.marks.items
      ++ record { by = by; deed = abort_deed (position (path_eq t) old.names.keys) } ∷ []
  pub rows : new.rows ≡ old.rows

abbrev pub NotesEntry : Notes → ReportEntry → Notes → Type 0
NotesEntry old (told.Line l n e a) new = NotesLine old l e a new
NotesEntry old (told.Victim t) new = NotesAbort old doer.Victim t new
NotesEntry old (told.Close t) new = NotesAbort old doer.Close t new

-- where reading led on, what is kept is what was read then, and so is the part
abbrev pub Reaches : Option Read → Stage → Notes → Type 0
Reaches o g x = (s : Read) → o ≡ Some s → IsNoted s x × (g ≡ stage_of s.part)

-- so much is read: these bytes, of which the rest comes from the line with this number on, are a
-- report
pub record IsUnderWay (whole : Read) (rest : List ℕ) (g : Stage) (x : Notes) : Type 0 where
  pub line : ℕ
  pub so_far : Read
  pub goes_on : read_from line so_far (cut_at 10 rest) ≡ Ok whole
  pub noted : IsNoted so_far x
  pub stage : g ≡ stage_of so_far.part
