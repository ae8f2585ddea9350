-- What the opening commits, and how a database comes to be known.
use Rattle.std.specs.Prelude.{◌≡◌, Bool, IsTrue}
use Rattle.sqlite.specs.Effect.{Database}
use Rattle.sqlite.specs.Held.{Held, state}
use Rattle.sqlite.specs.State.{State, Survives}
use Rattle.sqlite.specs.Steps.{IsEmpty}
use Rattle.row_store.specs.Steps.{over_memory}
use Rattle.sqlite.specs.Store.{Ghosts}
use Rattle.sqlite.specs.Tree.{Trees}
use Rattle.row_store.specs.declared.store.RowStore.{RowStore}
use Rattle.serial_spec.specs.Rows.{value_in}
use Rattle.serial_spec.specs.Serial.{Map}
use Rattle.sql_store.specs.Asked.{Made}
use Rattle.sql_store.specs.Calls.{IfClean}
use Rattle.sql_store.specs.Ids.{IsDecided, IsDecidedFirst}
use Rattle.sql_store.specs.Inside.{FoundOut, IsOpened}
use Rattle.sql_store.specs.Results.{no_schema, old_schema, both_schema}
use Rattle.sql_store.specs.Stored.{Stored}

pub record Opens (old new : State) : Type 0 where
  pub was_open : IsTrue old.is_open
  pub is_open : IsTrue new.is_open
  pub opened : IsOpened old.committed new.committed

-- what a crash may leave that the opening commits: the database behind it
abbrev pub MayOpen : State → Trees → Type 0
MayOpen old trees =
    IsTrue old.is_open × (db : Database) × IsOpened old.committed db × (trees ≡ db.trees)

-- a database of the tables of results alone is unknown only if the rowids that queries show of
-- them do not rise
pub record IsDoubted (db : Database) (known : Bool) : Type 0 where
  pub none : db.schema ≡ no_schema → IsTrue known
  pub first : db.schema ≡ old_schema → IsDecidedFirst db known
  pub both : db.schema ≡ both_schema → IsDecided db known

module _ {S : Type 0} (g : Ghosts S) where
  -- the opening found this out of what was committed, and committed it so
  abbrev pub FindsOut : Bool → Map → Held S → Held S → Type 0
  FindsOut is_apart numbers old new =
      FoundOut is_apart numbers (state g old).committed (state g new).committed

  -- the opening is committed on this connection
  abbrev pub OpensDatabase : Held S → Held S → Type 0
  OpensDatabase old new = Opens (state g old) (state g new)

  -- a crash leaves what it could leave before, or the database behind the opening
  abbrev pub SurvivesOpening : Held S → Held S → Type 0
  SurvivesOpening old new = Survives (state g old) (state g new) (MayOpen (state g old))

  -- The tables were made in the database that was found, which is unknown only if the rowids that
  -- queries show of them do not rise. These are the numbers of what was read.
  abbrev pub IsFound : Map → Held S → Bool → Type 0
  IsFound numbers new known =
      (found : Held S) × Made g numbers found new × IsDoubted (state g found).now known

  -- so a store found its database, as long as the disk returns what was written
  abbrev pub IsFoundStore : Stored S → Type 0
  IsFoundStore s = IfClean g s.connection (IsFound (value_in s.numbers) s.connection s.is_known)

-- the tables of a store were made in an empty database in memory
abbrev pub IsMadeInMemory : Stored RowStore → Type 0
IsMadeInMemory s =
    (found : Held RowStore) × IsEmpty (state over_memory found)
    × Made over_memory (value_in s.numbers) found s.connection
