-- A report as contracts see it.
use Rattle.std.specs.Prelude.{ℕ, List}
use Rattle.serial_spec.specs.History.{History}
use Rattle.serial_spec.specs.Rows.{Rows}

pub record Told : Type 0 where
  pub opening : Rows
  pub labels : List (List ℕ)
  -- the newest entry first
  pub history : History
  pub table : Rows
