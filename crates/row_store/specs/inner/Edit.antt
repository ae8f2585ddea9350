-- A write to the rows of a tree.
use Rattle.slot_list.specs.Slotted.{Slotted}
use Rattle.std.specs.Prelude.{◌≡◌, ◌≤◌, ℕ, List, [], IsTrue, map, set, get_or, length, ⊤}
use Rattle.sqlite_value.specs.Order.{Row}
use Rattle.sqlite_trees.specs.declared.store.Shape.{Shape}
use Rattle.sqlite_trees.specs.declared.store.Shape.TheVariants.{Table, Index}
use Rattle.sqlite_trees.specs.Tree.{rowid, put_row, without_rowid, insert_entry, remove_entry}
use Rattle.sqlite_trees.specs.View.{IsShaped, is_int}
use Rattle.row_store.specs.declared.edit.Edit.{Edit}
use Rattle.row_store.specs.declared.rows.Change.{Change}
use Rattle.row_store.specs.Undo.{IsUndoneBy}
use Rattle.row_store.specs.declared.edit.Edit.TheVariants.{Put, Delete, Insert, Remove, Empty}

abbrev pub edited : Edit → List Row → List Row
edited (Put row) = put_row row.now
edited (Delete id) = without_rowid id
edited (Insert o entry) = insert_entry o entry.now
edited (Remove o entry) = remove_entry o entry.now
edited Empty = λ rows. []

-- the rows are in the order of such a tree, and what is put has a rowid
abbrev pub Suits : Edit → List Row → Type 0
Suits (Put row) rows = IsShaped Table rows × IsTrue (is_int (rowid row.now))
Suits (Delete id) rows = IsShaped Table rows
Suits (Insert o entry) rows = IsShaped (Index o) rows
Suits (Remove o entry) rows = IsShaped (Index o) rows
Suits Empty rows = ⊤

-- the shape of the tree is that of the write, and what is put has a rowid
abbrev pub IsFor : Edit → Shape → Type 0
IsFor (Put row) shape = (shape ≡ Table) × IsTrue (is_int (rowid row.now))
IsFor (Delete id) shape = shape ≡ Table
IsFor (Insert o entry) shape = shape ≡ Index o
IsFor (Remove o entry) shape = shape ≡ Index o
IsFor Empty shape = ⊤

-- no tree has less room than before
abbrev pub HasRoomOf : List (Slotted Row) → List (Slotted Row) → Type 0
HasRoomOf old new = (t : ℕ) → get_or (map (λ v. v.capacity) old) t 0 ≤ get_or (map (λ v. v.capacity) new) t 0

-- one tree's rows are edited, the change undoes it, and the rows fit into its room
pub record EditsRows (edit : Edit) (tree : ℕ) (change : Change) (old new : List (Slotted Row)) : Type 0 where
  pub rows : map (λ v. v.items) new ≡ set (map (λ v. v.items) old) tree (edited edit (get_or (map (λ v. v.items) old) tree []))
  pub undone : IsUndoneBy change (get_or (map (λ v. v.items) new) tree []) (get_or (map (λ v. v.items) old) tree [])
  pub short : length (get_or (map (λ v. v.items) new) tree []) ≤ get_or (map (λ v. v.capacity) new) tree 0
