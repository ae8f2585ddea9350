-- What a sound state shows is in order and listed.
use Rattle.std.proofs.Common.{◌≡◌, ℕ, true, false, cond, eqb, List, [], ◌∷◌, refl}
use Rattle.std.proofs.Math.Logic.{∥∥₁_elim}
use Rattle.std.proofs.Common.{subst}
use Rattle.sqlite_trees.specs.declared.store.Shape.TheVariants.{Table}
use Rattle.sqlite_trees.specs.Tree.{with_tree}
use Rattle.sqlite_trees.specs.View.{IsShaped, IsOrdered}
use Rattle.sqlite_trees.specs.Objects.{catalog_tree, version_tree, version_rows, set_at, IsListed}
use Rattle.sqlite_trees.specs.Listing.{shape_in, objects_from, objects_are_ordered, objects_are_listed, listed_once}
use Rattle.sqlite_trees.specs.Props.{IsOrdered-prop}
use Rattle.row_store.specs.declared.store.RowStore.{RowStore}
use Rattle.row_store.specs.declared.log.Undo.{Undo}
use Rattle.row_store.specs.Path.{State, IsSound, IsPath, undone}
use Rattle.row_store.specs.RowView.{rows_in, shown, now, row_view}

pub path_now : (room : List ℕ) (log : List Undo) (s : State) → IsPath room log s → IsSound room s
path_now room [] s h = h
path_now room (u ∷ log) s h = path_now room log s h.0

state_is_ordered : (room : List ℕ) (s : State) → IsSound room s → IsOrdered (shown s).shape (shown s).trees
state_is_ordered room s h t =
    let below : IsShaped (set_at (shape_in s.headings) catalog_tree Table t) (with_tree (rows_in s.rows) catalog_tree (objects_from 0 s.headings) t) =
    elim (eqb t catalog_tree) as (λ b. IsShaped (cond b Table (shape_in s.headings t)) (cond b (objects_from 0 s.headings) (rows_in s.rows t)))
    [ true ↦ objects_are_ordered s.headings 0 | false ↦ h.shaped t ] in
    elim (eqb t version_tree) as (λ b. IsShaped (cond b Table (set_at (shape_in s.headings) catalog_tree Table t)) (cond b (version_rows s.version) (with_tree (rows_in s.rows) catalog_tree (objects_from 0 s.headings) t)))
    [ true ↦ ((tt, tt), (refl, tt)) | false ↦ below ]

pub store_is_ordered : (s : RowStore) → IsOrdered (row_view s).shape (row_view s).trees
store_is_ordered s = ∥∥₁_elim s.path (IsOrdered-prop _ _) (λ h. state_is_ordered _ (now s) (path_now _ s.log.items (now s) h))

pub store_is_listed : (s : RowStore) → IsListed ((row_view s).trees catalog_tree) (row_view s).shape (row_view s).reals
store_is_listed s = objects_are_listed (now s).headings

pub store_is_unaltered : (s : RowStore) → (row_view s).trees catalog_tree ≡ (row_view s).committed catalog_tree
    → ((row_view s).shape ≡ (row_view s).committed_shape) × ((row_view s).reals ≡ (row_view s).committed_reals)
store_is_unaltered s same =
    listed_once _ _ _ _ _ (subst (λ rows. IsListed rows (row_view s).shape (row_view s).reals) same (objects_are_listed (now s).headings)) (objects_are_listed (undone s.log.items (now s)).headings)
