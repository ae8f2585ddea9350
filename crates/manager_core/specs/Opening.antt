-- What an opening comes to.
use Rattle.std.specs.Prelude.{◌≡◌, ◌≤◌, ◌<◌, ℕ, List, [], length, Ok, Err}
use Rattle.serial_spec.specs.declared.limits.TheConstants.{MOST_ROWS}
use Rattle.serial_spec.specs.Rows.{value_in, IsRising}
use Rattle.durable_top.specs.declared.store.Row.{Row}
use Rattle.durable_top.specs.declared.store.StoreFault.{StoreFault}
use Rattle.durable_top.specs.declared.store.StoreFault.TheVariants.{Failed}
use Rattle.durable_top.specs.declared.store.TopStore.{Ghosts}
use Rattle.manager_core.specs.declared.outcome.OpenFault.{OpenFault}
use Rattle.manager_core.specs.declared.outcome.OpenFault.TheVariants.{NoMemory, Store, TooManyRows}
use Rattle.durable_top.specs.Store.{TellsFailure, plain}
use Rattle.durable_top.specs.Numbered.{entries_in}
use Rattle.manager_core.specs.State.{State}
use Rattle.manager_core.specs.Asked.{IsLater, LeavesNoMore}

abbrev pub most_rows : ℕ
most_rows = MOST_ROWS

-- the manager over this store as it was given
pub record IsOpened {S : Type 0} (g : Ghosts S) (store : S) (m : State S) : Type 0 where
  pub history : m.history ≡ []
  -- it was asked once, and the rows are what it answered
  pub loaded : g.loads store m.store (Ok m.opened.given.items)
  pub are : m.rows ≡ plain m.opened.given.items
  -- the rows are those of the store, in byte order
  pub rows : g.doubt m.store ≡ 0 → value_in m.rows ≡ g.table store
  pub numbered : g.doubt m.store ≡ 0 → entries_in m.opened.given.items ≡ g.numbered store
  pub rising : IsRising m.rows
  pub few : length m.rows ≤ most_rows
  pub table : value_in m.table ≡ value_in m.rows
  pub faults : m.opened.faults ≡ g.faults store
  pub later : IsLater g store m.store
  pub crash : LeavesNoMore g store m.store
  pub unfailed : g.failures m.store ≡ 0

-- the store was asked once, answered more rows than may be, and was left so
pub record HasTooMany {S : Type 0} (g : Ghosts S) (store : S) : Type 0 where
  pub left : S
  pub rows : List Row
  pub loaded : g.loads store left (Ok rows)
  pub later : IsLater g store left
  pub crash : LeavesNoMore g store left
  pub are : g.doubt left ≡ 0 → value_in (plain rows) ≡ g.table store
  pub rising : IsRising (plain rows)
  pub many : most_rows < length rows

-- the store was asked once, answered rows that are not too many, and was left so
pub record HasGivenFew {S : Type 0} (g : Ghosts S) (store : S) : Type 0 where
  pub left : S
  pub rows : List Row
  pub loaded : g.loads store left (Ok rows)
  pub later : IsLater g store left
  pub crash : LeavesNoMore g store left
  pub are : g.doubt left ≡ 0 → value_in (plain rows) ≡ g.table store
  pub rising : IsRising (plain rows)
  pub few : length rows ≤ most_rows

-- the store was asked once, answered this fault in place of its rows, and was left so
pub record FailsToLoad {S : Type 0} (g : Ghosts S) (store : S) (fault : StoreFault) : Type 0 where
  pub left : S
  pub loaded : g.loads store left (Err fault)
  pub later : IsLater g store left
  pub crash : LeavesNoMore g store left
  pub failures : TellsFailure (g.failures store) (g.failures left) (fault ≡ Failed)
  pub faults : g.faults left ≡ g.faults store

-- Why the manager was not opened. Memory ran out behind the store's answer, and not in place of it
abbrev pub HasCause : {S : Type 0} → Ghosts S → S → OpenFault → Type 0
HasCause g store NoMemory = HasGivenFew g store
HasCause g store (Store fault) = FailsToLoad g store fault
HasCause g store TooManyRows = HasTooMany g store
