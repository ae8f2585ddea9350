-- The verdict on the bytes of a report: that of the first of three passes that finds a fault.
use Rattle.std.specs.Prelude.{◌≡◌, ℕ, ℤ, suc, ◌+◌, ◌&&◌, if◌then◌else◌, Bool, List, [], ◌∷◌, length, Option, Some, None, Result, Ok, Err}
use Rattle.std.specs.Ordering.{int_eq}
use Rattle.txn_names.specs.Path.{label_eq}
use Rattle.serial_spec.specs.Rows.{IsRising, Rows, value_in}
use Rattle.report_check.specs.Passing.{Read, read}
use Rattle.report_check.specs.Serving.{PlacedAccess, accesses_of, least, map_behind, wrong_lines}
use Rattle.report_check.specs.declared.verdict.Verdict.{Verdict}
use Rattle.report_check.specs.declared.verdict.Verdict.TheVariants.{Yes, No}

-- ---- the second pass

-- the accesses that the committed top-level transactions made, or a part of theirs that committed
abbrev pub served : Read → List PlacedAccess
served r = accesses_of (1 + length r.opening) r.history []

abbrev pub first_wrong : Read → Option ℕ
first_wrong r = least (wrong_lines (value_in r.opening) (served r))

-- ---- the third pass

abbrev pub same_row : List ℕ × ℤ → List ℕ × ℤ → Bool
same_row a b = label_eq a.0 b.0 && int_eq a.1 b.1

-- the rows that were told, from line n on, beside those that are due
abbrev pub compared : ℕ → Rows → Rows → Verdict
compared n [] [] = Yes
compared n [] (d ∷ due) = No n
compared n (r ∷ rows) [] = No n
compared n (r ∷ rows) (d ∷ due) = if same_row r d then compared (suc n) rows due else No n

-- the rows that are due are those of the map that the second pass left, in byte order
pub record IsCompared (r : Read) (v : Verdict) : Type 0 where
  pub due : Rows
  pub rising : IsRising due
  pub left : value_in due ≡ map_behind (value_in r.opening) (served r)
  pub verdict : v ≡ compared (3 + length r.opening + length r.history) r.table due

-- ---- all three

abbrev pub IsRun : Read → Option ℕ → Verdict → Type 0
IsRun r (Some n) v = v ≡ No n
IsRun r None v = IsCompared r v

abbrev pub IsJudged : Result Read ℕ → Verdict → Type 0
IsJudged (Err n) v = v ≡ No n
IsJudged (Ok r) v = IsRun r (first_wrong r) v

abbrev pub HasVerdict : List ℕ → Verdict → Type 0
HasVerdict bs v = IsJudged (read bs) v
