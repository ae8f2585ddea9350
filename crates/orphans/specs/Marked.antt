-- What a contract sees of marks.
use Rattle.std.specs.Prelude.{ℕ, Bool, List}
use Rattle.std.specs.List.{list_any}
use Rattle.txn_names.specs.Path.{Path, path_eq}

-- the marked names, and how many marks more take no memory
pub record Marked : Type 0 where
  pub names : List Path
  pub room : ℕ

-- whether a path is marked itself, whatever its ancestors are
abbrev pub is_marked : Marked → Path → Bool
is_marked marks t = list_any (path_eq t) marks.names
