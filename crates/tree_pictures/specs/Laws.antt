-- What the rows of a picture have.
use Rattle.std.specs.Prelude.{◌≡◌, ◌≤◌, ℕ, List, length}
use Rattle.std.specs.List.{flat_map}
use Rattle.report_trees.specs.declared.outcomes.Shown.{Shown}
use Rattle.tree_pictures.specs.Bars.{groups}
use Rattle.tree_pictures.specs.Scale.{row_count, together_of}

-- the groups of all rows, one behind the other, are all transactions in their order
abbrev pub RowsHaveAll : Type 0
RowsHaveAll = (ss : List Shown) → let n = together_of (length ss) in
    flat_map (λ g. g) (groups (row_count (length ss) n) n ss) ≡ ss

abbrev pub RowsAreFew : Type 0
RowsAreFew = (transactions : ℕ) → row_count transactions (together_of transactions) ≤ 2000
