-- The states that a log of undone writes leads back to.
use Rattle.std.specs.Prelude.{◌≡◌, ◌<◌, ◌≤◌, ℕ, List, [], ◌∷◌, length, set, get_or, ⊤}
use Rattle.sqlite_value.specs.Order.{Row}
use Rattle.sqlite_trees.specs.View.{IsShaped}
use Rattle.sqlite_trees.specs.Listing.{Heading, shape_in}
use Rattle.row_store.specs.declared.log.Undo.{Undo}
use Rattle.row_store.specs.declared.log.Undo.TheVariants.{Rows, Listed, Version}
use Rattle.row_store.specs.Heading.{heading}
use Rattle.row_store.specs.Undo.{reverted, IsRevertible}

-- a heading and rows for each number that a tree may have, and SQLite's user version
pub record State : Type 0 where
  pub headings : List Heading
  pub rows : List (List Row)
  pub version : ℕ

-- the state before the write
abbrev pub undo : Undo → State → State
undo (Rows tree change) s = record s { rows = set s.rows tree (reverted change (get_or s.rows tree [])) }
undo (Listed tree head) s = record s { headings = set s.headings tree (heading head) }
undo (Version version) s = record s { version = version }

abbrev pub Fits : Undo → State → Type 0
Fits (Rows tree change) s = (tree < length s.rows) × IsRevertible change (get_or s.rows tree [])
Fits (Listed tree head) s = tree < length s.headings
Fits (Version version) s = ⊤

-- the state before all writes of the log, the oldest first
abbrev pub undone : List Undo → State → State
undone [] s = s
undone (u ∷ log) s = undo u (undone log s)

-- each tree's rows are in order, and have room
pub record IsSound (room : List ℕ) (s : State) : Type 0 where
  pub count : (length s.headings ≡ 16) × (length s.rows ≡ 16)
  pub shaped : (t : ℕ) → IsShaped (shape_in s.headings t) (get_or s.rows t [])
  pub short : (t : ℕ) → length (get_or s.rows t []) ≤ get_or room t 0

-- each state on the way back is sound
abbrev pub IsPath : List ℕ → List Undo → State → Type 0
IsPath room [] s = IsSound room s
IsPath room (u ∷ log) s = IsPath room log s × Fits u (undone log s) × IsSound room (undone (u ∷ log) s)
