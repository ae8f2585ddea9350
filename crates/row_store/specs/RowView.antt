-- What a store of rows shows.
use Rattle.std.specs.Prelude.{◌≡◌, ℕ, true, false, if◌then◌else◌, ◌==◌, List, [], ◌∷◌, ◌++◌, map, take, drop, reverse, get_or, Option, Some, None, option_map}
use Rattle.sqlite_value.specs.Order.{Row}
use Rattle.sqlite_trees.specs.declared.store.Direction.{Direction}
use Rattle.sqlite_trees.specs.declared.store.Direction.TheVariants.{Forward, Backward}
use Rattle.sqlite_trees.specs.Tree.{Trees}
use Rattle.sqlite_trees.specs.View.{Snapshot, View}
use Rattle.sqlite_trees.specs.Memory.{snapshot_of}
use Rattle.row_store.specs.declared.store.Cursor.{Cursor}
use Rattle.row_store.specs.declared.store.RowStore.{RowStore}
use Rattle.row_store.specs.declared.log.Undo.{Undo}
use Rattle.row_store.specs.Heading.{heading}
use Rattle.row_store.specs.Path.{State, undone}

abbrev pub rows_in : List (List Row) → Trees
rows_in rows t = get_or rows t []

abbrev pub shown : State → Snapshot
shown s = snapshot_of s.headings (rows_in s.rows) s.version

abbrev pub now : RowStore → State
now s = record { headings = map heading s.headings.items; rows = map (λ v. v.items) s.rows.items; version = s.version }

abbrev left_from : Direction → ℕ → List Row → List Row
left_from Forward at rows = drop at rows
left_from Backward at rows = reverse (take at rows)

abbrev pub left_of : List (List Row) → Cursor → List Row
left_of rows c = left_from c.direction c.at (rows_in rows c.tree)

abbrev pub SetsCursor : List (Option Cursor) → List (Option Cursor) → ℕ → Cursor → Type 0
SetsCursor old new at cursor = (c : ℕ) → get_or new c None ≡ (if c == at then Some cursor else get_or old c None)

abbrev pub Steps : List (List Row) → Cursor → Row → Option Cursor → Type 0
Steps rows cursor row None = left_of rows cursor ≡ []
Steps rows cursor row (Some moved) = left_of rows cursor ≡ row ∷ left_of rows moved

abbrev pub view_of : State → List Undo → List ℕ → List (Option Cursor) → View
view_of s log marks cursors = record {
  trees = (shown s).trees;
  committed = (shown (undone log s)).trees;
  cursors = λ c. option_map (left_of s.rows) (get_or cursors c None);
  shape = (shown s).shape;
  reals = (shown s).reals;
  committed_shape = (shown (undone log s)).shape;
  committed_reals = (shown (undone log s)).reals;
  marks = map (λ n. shown (undone (drop n log) s)) marks;
  is_numbered = true;
  has_sums = false;
  is_open = true;
  is_broken = false;
  is_clean = true;
}

abbrev pub row_view : RowStore → View
row_view s = view_of (now s) s.log.items s.marks.items s.cursors.items

-- the writes since lead back to what stood before, and the savepoints stand
pub record Leads (old new : RowStore) (s : State) : Type 0 where
  pub state : now new ≡ s
  pub more : List Undo
  pub log : new.log.items ≡ old.log.items ++ more
  pub back : undone more s ≡ now old
  pub marks : new.marks ≡ old.marks
