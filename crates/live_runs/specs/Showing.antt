-- What is written of a report that grows, part by part.
use Rattle.std.specs.Prelude.{◌⊎◌, ◌-◌, ◌++◌, ℕ, List, length, reverse, take, Ok, Err}
use Rattle.std.specs.Io.KnownBytes.{Appends}
use Rattle.txn_bytes.specs.Written.{Writer}
use Rattle.serial_spec.specs.declared.entry.Entry.{Entry}
use Rattle.serial_spec.specs.History.{History}
use Rattle.line_language.specs.Report.{spelled_history}
use Rattle.run_reports.specs.Told.{Told}
use Rattle.report_text.specs.Lines.{ending_text}
use Rattle.program_words.specs.Faults.{IsCut}
use Rattle.program_words.specs.Tellings.{IsFlushed}

-- the entries behind the oldest so many
abbrev pub entries_behind : ℕ → History → History
entries_behind n h = take (length h - n) h

-- the lines of the entries behind the first so many, of which the oldest stands first
abbrev pub lines_behind : List (List ℕ) → ℕ → List Entry → List ℕ
lines_behind labels n entries = spelled_history labels (entries_behind n (reverse entries))

-- the lines of these entries, and the end of the report
abbrev pub rest_behind : ℕ → Told → List ℕ
rest_behind n r =
    spelled_history r.labels (entries_behind n r.history) ++ ending_text r.table

module _ {W : Type 0} (w : Writer W) where
  -- the writer got these bytes and passed them on
  pub record IsShown (old new : W) (bytes : List ℕ) : Type 0 where
    pub given : Appends (w.contents old) (w.contents new) bytes
    pub passed : IsFlushed w new (Ok tt)

  -- it took a beginning of them and not all, or all, and did not pass them on
  abbrev pub IsUnshown : W → W → List ℕ → Type 0
  IsUnshown old new bytes =
      IsCut w old new bytes
      ⊎ (Appends (w.contents old) (w.contents new) bytes × IsFlushed w new (Err (record {})))
