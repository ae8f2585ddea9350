-- Rows from values and numbers that are kept apart.
use Rattle.std.specs.Prelude.{◌≡◌, ℕ, ℤ, pos, List, map, Option, Some, None, is_some}
use Rattle.serial_spec.specs.Rows.{Rows, value_in}
use Rattle.serial_spec.specs.Serial.{Map}
use Rattle.durable_top.specs.declared.store.Row.{Row}
use Rattle.durable_top.specs.Numbered.{Numbered, entries_in}

abbrev pub number_else_0 : Option ℤ → ℤ
number_else_0 None = pos 0
number_else_0 (Some n) = n

-- the rows of these values, each with the number that its key has
abbrev pub joined : Rows → Map → List Row
joined values numbers =
    map (λ r. record { key = r.0; value = r.1; commit = number_else_0 (numbers r.0) }) values

-- what each key has by the two
abbrev pub entries_by : Rows → Rows → Numbered
entries_by values numbers = entries_in (joined values (value_in numbers))

-- a key has a number where it has a value
abbrev pub HaveSameKeys : Map → Map → Type 0
HaveSameKeys values numbers = (k : List ℕ) → is_some (values k) ≡ is_some (numbers k)
