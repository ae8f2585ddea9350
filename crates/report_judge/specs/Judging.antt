-- What bytes come to that are read line by line.
use Rattle.std.specs.Prelude.{◌≡◌, ◌<◌, ◌≤◌, ◌⊎◌, ℕ, suc, ◌++◌, Bool, true, false, not, ◌&&◌, ◌==◌, nat_eq, length, List, [], ◌∷◌, Err}
use Rattle.std.specs.List.{list_all}
use Rattle.std.specs.Io.KnownBytes.{Consumes, IsAtEnd}
use Rattle.txn_bytes.specs.declared.source.TheConstants.{MOST_READS}
use Rattle.txn_bytes.specs.Sources.{HasGiven, IsPartRead, IsReadWhole, IsUnread, Reader}
use Rattle.serial_spec.specs.Rows.{IsRising, Rows, value_in}
use Rattle.line_language.specs.Words.{cut_at}
use Rattle.report_check.specs.Passing.{Part, Read, has_ended, read, read_from}
use Rattle.report_check.specs.Verdicts.{HasVerdict, compared}
use Rattle.report_check.specs.declared.verdict.Verdict.{Verdict}
use Rattle.report_check.specs.declared.verdict.Verdict.TheVariants.{No, Yes}
use Rattle.report_tables.specs.Valued.{Values, value_at}
use Rattle.report_judge.specs.Kept.{IsSeen, line_of}
use Rattle.report_judge.specs.declared.reading.CheckFault.{CheckFault}
use Rattle.report_judge.specs.declared.reading.CheckFault.TheVariants as fault
use Rattle.report_judge.specs.declared.reading.Judged.{Judged}
use Rattle.report_judge.specs.declared.reading.Judged.TheVariants as judged
use Rattle.report_judge.specs.declared.lines.TheConstants.{MOST_BYTES}
use Rattle.report_judge.specs.declared.lines.Judge.{Judge}
use Rattle.report_judge.specs.declared.lines.Standing.{Standing}
use Rattle.report_judge.specs.declared.seen.Seen.{Seen}

-- no line feed is among them
abbrev pub IsLine : List ℕ → Type 0
IsLine bs = list_all (λ b. not (nat_eq b 10)) bs ≡ true

-- the bytes are these lines, which have ended, and then p, whatever follows
pub record AreLines (bs p : List ℕ) (line : ℕ) : Type 0 where
  pub ended : List (List ℕ)
  pub cut : (rest : List ℕ) → cut_at 10 (bs ++ rest) ≡ ended ++ cut_at 10 (p ++ rest)
  pub count : line ≡ suc (length ended)

-- after these bytes, of which p are the line with this number as far as it has come, it goes on
-- from what is seen; or that line is the first fault, whatever follows
abbrev pub GoesFrom : List ℕ → List ℕ → ℕ → Seen → Bool → Type 0
GoesFrom bs p line s false =
    (r : Read) × IsSeen r s × (line ≡ line_of r)
    × ((rest : List ℕ) → read (bs ++ rest) ≡ read_from line r (cut_at 10 (p ++ rest)))
    × AreLines bs p line
GoesFrom bs p line s true = (rest : List ℕ) → read (bs ++ rest) ≡ Err line

-- the same by what stands of a judge: the line, what is seen, and whether a fault was met
abbrev pub IsDue : List ℕ → List ℕ → Standing → Type 0
IsDue bs p x = GoesFrom bs p x.line x.seen x.faulty

-- after these bytes
pub record Stands (bs : List ℕ) (j : Judge) : Type 0 where
  pub line : IsLine j.kept
  pub short : length j.kept ≤ MOST_BYTES
  pub due : IsDue bs j.kept j.standing

-- ---- how much of a report is read

-- Behind these bytes the verdict is still open, so that more is wanted: none of the lines that have
-- ended is the first fault, and the one that has not ended is no longer than a line may be
pub record WantsMore (bs : List ℕ) : Type 0 where
  pub ended : List (List ℕ)
  pub part : List ℕ
  pub lines : cut_at 10 bs ≡ ended ++ part ∷ []
  pub right : (n : ℕ) → read bs ≡ Err n → length ended < n
  pub short : length part ≤ MOST_BYTES

-- the verdict is this, whatever follows the bytes
abbrev pub IsSettled : List ℕ → Verdict → Type 0
IsSettled bs v = (rest : List ℕ) → HasVerdict (bs ++ rest) v

module _ {R : Type 0} (r : Reader R) (old new : R) where
  -- the reader gave bytes up to its end, and they have the verdict
  pub record IsJudgedWhole (v : Verdict) : Type 0 where
    pub bytes : List ℕ
    pub whole : IsReadWhole r WantsMore old new bytes
    pub taken : Consumes (r.remaining old) (r.remaining new) bytes
    pub ended : IsAtEnd (r.remaining new)
    pub verdict : HasVerdict bytes v

  -- it gave bytes that settle the verdict, and was asked for no more
  pub record IsJudgedEarly (v : Verdict) : Type 0 where
    pub calls : ℕ
    pub few : calls ≤ MOST_READS
    pub bytes : List ℕ
    pub given : HasGiven r WantsMore calls old new bytes
    pub taken : Consumes (r.remaining old) (r.remaining new) bytes
    pub settled : IsSettled bytes v

  -- the bytes that the reader gave have the verdict
  abbrev pub IsVerdictOn : Verdict → Type 0
  IsVerdictOn v = IsJudgedWhole v ⊎ IsJudgedEarly v

  -- the reader gave these bytes up to its end, and they are a report with the verdict yes
  pub record IsReport (bytes : List ℕ) : Type 0 where
    pub whole : IsReadWhole r WantsMore old new bytes
    pub taken : Consumes (r.remaining old) (r.remaining new) bytes
    pub ended : IsAtEnd (r.remaining new)
    pub verdict : HasVerdict bytes Yes

  -- these are all bytes that it gave, and a report; or what it gave has the verdict no
  abbrev pub IsJudgement : Judged → Type 0
  IsJudgement (judged.Yes bytes) = IsReport bytes.items
  IsJudgement (judged.No n) = IsVerdictOn (No n)

-- why there is no verdict: a growth was refused while the reader gave bytes, or the reader did not
-- come to its end
abbrev pub HasCheckCause : {R : Type 0} → Reader R → R → R → CheckFault → Type 0
HasCheckCause r old new fault.NoMemory = IsPartRead r WantsMore old new
HasCheckCause r old new fault.Read = IsUnread r WantsMore old new

-- the final rows beside those of the keys that have values, in byte order
pub record IsComparedBy (es : Values) (table : Rows) (n : ℕ) (v : Verdict) : Type 0 where
  pub due : Rows
  pub rising : IsRising due
  pub left : (k : List ℕ) → value_in due k ≡ value_at es k
  pub verdict : v ≡ compared n table due

-- the report has ended with the bytes so far
abbrev pub is_over : Bool → List ℕ → Part → Bool
is_over faulty kept p = not faulty && (length kept == 0 && has_ended p)
