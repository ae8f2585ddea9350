-- The final rows beside those that are due, from a row and a key on.
use Rattle.std.specs.Prelude.{◌≡◌, ◌≤◌, ℕ, ℤ, ◌+◌, Bool, false, List, length, drop, Option, Some, None, if◌then◌else◌}
use Rattle.serial_spec.specs.Rows.{Rows}
use Rattle.report_check.specs.Verdicts.{compared, same_row}
use Rattle.report_check.specs.declared.verdict.Verdict.{Verdict}
use Rattle.report_check.specs.declared.verdict.Verdict.TheVariants.{No}
use Rattle.report_tables.specs.Valued.{Values, present}

abbrev pub is_row : Option (List ℕ × ℤ) → List ℕ → ℤ → Bool
is_row None k v = false
is_row (Some r) k v = same_row r (k, v)

-- the place of the next row, if the row is the key's, or the key has no value
abbrev pub next_of : Option (List ℕ × ℤ) → ℕ → List ℕ → Option ℤ → Option ℕ
next_of o p k None = Some p
next_of o p k (Some v) = if is_row o k v then Some (p + 1) else None

-- the rows from the place p on, of which the first stands at the line n, beside the keys from the
-- number i on
abbrev pub compared_from : ℕ → Rows → Values → ℕ → ℕ → Verdict
compared_from n table es p i = compared (n + p) (drop p table) (present (drop i es))

-- the row at the place p is the one due, if one is due at the number i, and the comparison goes on;
-- or it is not, and that is the verdict
abbrev pub Advances : ℕ → Rows → Values → ℕ → ℕ → Option ℕ → Type 0
Advances n table es p i None = compared_from n table es p i ≡ No (n + p)
Advances n table es p i (Some q) = (q ≤ length table)
    × (compared_from n table es p i ≡ compared_from n table es q (i + 1))
