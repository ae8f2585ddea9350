-- The store of rows, as a connection sees it.
use Rattle.std.specs.Prelude.{◌≡◌, None}
use Rattle.sqlite_trees.specs.declared.store.Store.{Ghosts}
use Rattle.row_store.specs.declared.store.RowStore.{RowStore}
use Rattle.row_store.specs.RowView.{row_view}

abbrev pub over_memory : Ghosts RowStore
over_memory = record { view = row_view; faults = λ _. 0; recovers = λ s db. db ≡ (row_view s).committed; is_shielded = λ _. Unit {0}; is_step = λ _ _ _. Unit {0}; blamed = λ _. None; names = λ _ _ _. Unit {0} }
