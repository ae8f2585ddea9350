-- The rows of a table, with the numbers of the commits that set them.
use Rattle.std.specs.Prelude.{ℕ, List, [], ◌∷◌, ◌++◌, codes}
use Rattle.line_language.specs.Printing.{spelled_number}
use Rattle.line_language.specs.Report.{line}
use Rattle.durable_top.specs.declared.store.Row.{Row}

-- a row as in a report, a space and the number of the commit
abbrev pub numbered_row : Row → List ℕ
numbered_row r = r.key ++ codes "=" ++ spelled_number r.value ++ codes " "
    ++ spelled_number r.commit

-- one row a line
abbrev pub numbered_rows : List Row → List ℕ
numbered_rows [] = []
numbered_rows (r ∷ rows) = line (numbered_row r) ++ numbered_rows rows
