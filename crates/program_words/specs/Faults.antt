-- By which line the program tells why there is no report.
use Rattle.std.specs.Prelude.{◌⊎◌, ℕ, List, ◌++◌, codes, decimal}
use Rattle.std.specs.Io.KnownBytes.{Appends}
use Rattle.txn_bytes.specs.Written.{AppendsFront, IsStopped, Writer}
use Rattle.line_language.specs.Report.{line}
use Rattle.line_language.specs.declared.fault.LineKind.{LineKind}
use Rattle.line_language.specs.declared.fault.LineKind.TheVariants as kinds
use Rattle.program_words.specs.declared.fault.Fault.{Fault}
use Rattle.program_words.specs.declared.fault.Fault.TheVariants.{CannotRead, Line, Schedule, CannotOpen, TooManyRows, NoMemory, CannotStart, CannotWrite}

-- the word for what is wrong with a line of a text
abbrev pub spelled_kind : LineKind → List ℕ
spelled_kind kinds.End = codes "end"
spelled_kind kinds.Empty = codes "empty"
spelled_kind kinds.Word = codes "word"
spelled_kind kinds.Shape = codes "shape"
spelled_kind kinds.Label = codes "label"
spelled_kind kinds.Name = codes "name"
spelled_kind kinds.Key = codes "key"
spelled_kind kinds.Number = codes "number"
spelled_kind kinds.Header = codes "header"
spelled_kind kinds.Limit = codes "limit"
spelled_kind kinds.Turn = codes "turn"
spelled_kind kinds.Long = codes "long"

-- what a fault's line says, without its line feed
abbrev pub spelled_cause : Fault → List ℕ
spelled_cause (CannotRead file) = codes "tx: cannot read " ++ file.now
spelled_cause (Line number kind) =
    codes "tx: line " ++ decimal number ++ codes ": " ++ spelled_kind kind
spelled_cause (Schedule place) = codes "tx: schedule: item " ++ decimal place
spelled_cause CannotOpen = codes "tx: cannot open database"
spelled_cause TooManyRows = codes "tx: too many rows"
spelled_cause NoMemory = codes "tx: no memory"
spelled_cause CannotStart = codes "tx: cannot start worker"
spelled_cause CannotWrite = codes "tx: cannot write"

-- and with it
abbrev pub spelled_fault : Fault → List ℕ
spelled_fault fault = line (spelled_cause fault)

-- the writer failed: it took a beginning of these bytes, and was then asked in vain to take more
pub record IsCut {W : Type 0} (w : Writer W) (old new : W) (bytes : List ℕ) : Type 0 where
  pub front : AppendsFront (w.contents old) (w.contents new) bytes
  pub stopped : IsStopped w new

-- it took these bytes, or it failed on the way
abbrev pub IsSaid : {W : Type 0} → Writer W → W → W → List ℕ → Type 0
IsSaid w old new bytes = Appends (w.contents old) (w.contents new) bytes ⊎ IsCut w old new bytes
