-- What changes make of the table under a number, in a transaction and behind its commit.
use Rattle.std.specs.Prelude.{◌≡◌, ℤ, List, Result, OnOk, IsTrue}
use Rattle.sqlite.specs.Held.{Held, state}
use Rattle.sqlite.specs.Store.{Ghosts}
use Rattle.sqlite.specs.Tree.{Trees}
use Rattle.sqlite.specs.State.{State, Survives}
use Rattle.txn_names.specs.declared.change.Change.{Change}
use Rattle.durable_top.specs.Numbered.{overlay_numbered}
use Rattle.sql_store.specs.Table.{map_of, table_of, IsReady, IsMoved, KeepsOldTree}

-- the changes were made one after another
pub record MakesAll (number : ℤ) (changes : List Change) (old new : State) : Type 0 where
  pub ready : IsReady new.now
  pub table : table_of new.now ≡ overlay_numbered number changes (table_of old.now)
  pub others : KeepsOldTree old.now new.now

-- the changes are committed
pub record Stores (number : ℤ) (changes : List Change) (old new : State) : Type 0 where
  pub was_open : IsTrue old.is_open
  pub is_open : IsTrue new.is_open
  pub moved : IsMoved old.committed → IsMoved new.committed
  pub table : IsReady old.committed
      → table_of new.committed ≡ overlay_numbered number changes (table_of old.committed)

-- what the connection shows with the changes made
abbrev pub IsStored : ℤ → List Change → State → Trees → Type 0
IsStored number changes old db =
    IsTrue old.is_open
    × (IsReady old.committed
    → map_of (db 2) ≡ overlay_numbered number changes (table_of old.committed))

module _ {S : Type 0} (g : Ghosts S) where
  -- a call that succeeds made the changes in a database that was ready
  abbrev pub MakesReady : {T E : Type 0} → ℤ → List Change
      → Held S → Held S → Result T E → Type 0
  MakesReady number changes old new result =
      IsReady (state g old).now → OnOk result (MakesAll number changes (state g old) (state g new))

  -- the changes are committed on this connection
  abbrev pub StoresChanges : ℤ → List Change → Held S → Held S → Type 0
  StoresChanges number changes old new = Stores number changes (state g old) (state g new)

  -- a crash leaves what it could leave before, or the table with the changes made
  abbrev pub SurvivesChanges : ℤ → List Change → Held S → Held S → Type 0
  SurvivesChanges number changes old new =
      Survives (state g old) (state g new) (IsStored number changes (state g old))
