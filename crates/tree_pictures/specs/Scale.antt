-- Where entries and rows stand in a picture, in tenths of a unit.
use Rattle.std.specs.Prelude.{ℕ, ◌+◌, ◌-◌, ◌*◌, ◌/◌, ◌^◌, min, max}
use Rattle.tree_pictures.specs.declared.scale.Scale.{Scale}
use Rattle.tree_pictures.specs.declared.scale.TheConstants.{LEFT, MOST_SHOWN, ROW, SPAN, TOP}

-- sums and products, as far as 64 bits go
abbrev pub plus : ℕ → ℕ → ℕ
plus m n = min (m + n) (2 ^ 64 - 1)

abbrev pub product : ℕ → ℕ → ℕ
product m n = min (m * n) (2 ^ 64 - 1)

-- ---- rows

-- how many transactions are drawn in one row: one, unless there are more than there may be rows
abbrev pub together_of : ℕ → ℕ
together_of transactions = transactions / MOST_SHOWN + 1

-- the quotient, rounded up
abbrev pub row_count : ℕ → ℕ → ℕ
row_count transactions n = (transactions + (n - 1)) / n

abbrev pub scale_of : ℕ → ℕ → ℕ → Scale
scale_of transactions count line =
    record {
      entries = count;
      together = together_of transactions;
      rows = row_count transactions (together_of transactions);
      first_line = line;
    }

-- ---- places

-- The entries divide the width among them. Behind the last one the end of the width is meant
abbrev pub x_of : Scale → ℕ → ℕ
x_of sc n = plus LEFT (product (min n (max sc.entries 1)) SPAN / max sc.entries 1)

abbrev pub y_of : ℕ → ℕ
y_of row = plus TOP (product row ROW)

abbrev pub bottom_of : Scale → ℕ
bottom_of sc = plus TOP (product sc.rows ROW)

-- the line of the report that has the entry
abbrev pub line_of : Scale → ℕ → ℕ
line_of sc n = plus sc.first_line n
