-- What the close does to the history and the tables.
use Rattle.std.specs.Prelude.{◌≡◌, ℕ, IsFalse, List, [], ◌∷◌, ◌++◌, map, None}
use Rattle.serial_spec.specs.History.{Name, History, is_live, begun}
use Rattle.serial_spec.specs.Rows.{Rows}
use Rattle.serial_spec.specs.Legal.{Legal, first_live}
use Rattle.serial_spec.specs.Waits.{Quiet}
use Rattle.serial_spec.specs.Interleaving.{closing}
use Rattle.manager_core.specs.Tables.{Tabled}
use Rattle.manager_core.specs.Kept.{AreTablesOf}

-- the entries by which these transactions are closed, the last closed first
abbrev pub closings : List Name → History
closings names = map closing names

-- only closing entries were added, the tables are what the history says, and no top-level
-- transaction is live any more
pub record Closes (rows : Rows) (old new : History) (tables : Tabled) : Type 0 where
  pub names : List Name
  pub added : new ≡ closings names ++ old
  pub legal : Legal rows new
  pub quiet : Quiet new
  pub are : AreTablesOf rows new tables
  pub none_left : first_live new (begun new) ≡ None
  pub ended : (l : List ℕ) → IsFalse (is_live new (l ∷ []))
