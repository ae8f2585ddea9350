-- What undoes a write to the rows of one tree.
use Rattle.std.specs.Prelude.{◌≡◌, ◌<◌, ◌≤◌, List, ◌++◌, length, set, ⊤}
use Rattle.std.specs.List.{insert, remove}
use Rattle.sqlite_value.specs.Order.{Row}
use Rattle.row_store.specs.declared.rows.Change.{Change}
use Rattle.row_store.specs.declared.rows.Change.TheVariants.{Nothing, Inserted, Replaced, Removed, Emptied}

-- the rows before the change
abbrev pub reverted : Change → List Row → List Row
reverted Nothing rows = rows
reverted (Inserted at) rows = remove rows at
reverted (Replaced at row) rows = set rows at row
reverted (Removed at row) rows = insert rows at row
reverted (Emptied taken) rows = rows ++ taken.items

-- the place of the change is one of these rows
abbrev pub IsRevertible : Change → List Row → Type 0
IsRevertible Nothing rows = ⊤
IsRevertible (Inserted at) rows = at < length rows
IsRevertible (Replaced at row) rows = at < length rows
IsRevertible (Removed at row) rows = at ≤ length rows
IsRevertible (Emptied taken) rows = ⊤

pub record IsUndoneBy (change : Change) (new old : List Row) : Type 0 where
  pub fits : IsRevertible change new
  pub back : reverted change new ≡ old
