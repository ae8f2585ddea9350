-- What the opening's statements make inside its transaction.
use Rattle.std.specs.Prelude.{◌≡◌, ◌⊎◌, ℕ, Bool, List, [], Result, IfOk, OnOk, IfErr, IsTrue}
use Rattle.std.specs.Global.{Vec}
use Rattle.sqlite.specs.declared.error.Error.{Error}
use Rattle.sqlite.specs.Order.{Row as Values}
use Rattle.sqlite.specs.Query.{Query}
use Rattle.sqlite.specs.Effect.{Database}
use Rattle.sqlite.specs.State.{State, HasCleanDisk, Survives, KeepsCommit, IsUnchanged, Shown, FailsToQuery}
use Rattle.durable_top.specs.declared.store.Row.{Row}
use Rattle.serial_spec.specs.Rows.{IsRising}
use Rattle.durable_top.specs.Store.{plain}
use Rattle.durable_top.specs.Numbered.{numbers_of, entries_in, AreNumbered}
use Rattle.serial_spec.specs.Serial.{Map}
use Rattle.sql_store.specs.Faults.{IsCaused}
use Rattle.sql_store.specs.Laid.{laid}
use Rattle.sql_store.specs.Ids.{IsDecided, IsDecidedFirst}
use Rattle.sql_store.specs.Load.{IsAnswerOn}
use Rattle.sql_store.specs.Results.{no_schema, old_schema, both_schema, IsOurSchema}
use Rattle.sql_store.specs.Table.{moved, map_of, table_of, AreApart, AreBothApart, IsReady, IsMoved, KeepsOldTree}

-- nothing is committed, and a crash leaves what it could leave before
pub record Steps (old new : State) : Type 0 where
  pub kept : HasCleanDisk new → IsTrue old.in_transaction → KeepsCommit old new
  pub survives : Survives old new (λ _. ⊥)

-- the transaction goes on
abbrev pub GoesOn : State → State → Type 0
GoesOn old new = HasCleanDisk new → IsTrue old.in_transaction
    → IsTrue new.in_transaction × IsTrue old.is_open

-- what a query in a transaction says that shows all rows of a table
pub record Selects (text : List ℕ) (query : Query) (old new : State)
    (result : Result (Vec Values) Error) : Type 0 where
  pub steps : Steps old new
  pub on : OnOk result (GoesOn old new)
  pub rows : HasCleanDisk new → old.now.schema ≡ both_schema
      → IfOk result (λ rows. IsAnswerOn query old.now rows.items)
  pub same : HasCleanDisk new → OnOk result (IsUnchanged old new)
  pub cause : HasCleanDisk new → IfErr result (IsCaused old new)
  pub refused : HasCleanDisk new → IsTrue old.in_transaction
      → IfErr result (FailsToQuery text [] old new)
  pub shown : HasCleanDisk new → IfOk result (λ rows. Shown text [] old new rows.items)

-- the old table is there, without rows
abbrev pub MakesOldTable : Database → Database → Type 0
MakesOldTable old new = (new.schema ≡ old_schema) × (new.trees 0 ≡ [])

-- the new one is too, and the old one has the rows that it had
abbrev pub MakesNewTable : Database → Database → Type 0
MakesNewTable old new = (new.schema ≡ both_schema) × (new.trees 2 ≡ []) × KeepsOldTree old new

-- both tables are there, and what was there is as it was
pub record AreMade (old new : Database) : Type 0 where
  pub none : old.schema ≡ no_schema
      → (new.schema ≡ both_schema) × (new.trees 0 ≡ []) × (new.trees 2 ≡ [])
  pub first : old.schema ≡ old_schema
      → (new.schema ≡ both_schema) × (new.trees 0 ≡ old.trees 0) × (new.trees 2 ≡ [])
  pub both : old.schema ≡ both_schema → new ≡ old

-- the table is now that of the old rows, each under the number 0
abbrev pub HasMoved : Database → Database → Type 0
HasMoved old new = table_of new ≡ moved (old.trees 0)

-- the rows of the old table have moved, or there were none
pub record IsOpened (old new : Database) : Type 0 where
  pub none : old.schema ≡ no_schema → IsMoved new × (table_of new ≡ map_of [])
  pub first : old.schema ≡ old_schema → AreApart (old.trees 0) → IsMoved new × HasMoved old new
  pub both : old.schema ≡ both_schema → AreApart (old.trees 0) → AreApart (old.trees 2)
      → IsMoved new
      × (((old.trees 0 ≡ []) × (new ≡ old)) ⊎ ((old.trees 2 ≡ []) × HasMoved old new))
  -- known or not, both tables stay as they are where the old one has no rows
  pub stays : old.schema ≡ both_schema → old.trees 0 ≡ [] → new ≡ old

-- the rows that were read of both tables
pub record AreRead (old_rows new_rows : List Row) (db : Database) : Type 0 where
  pub old_is : entries_in old_rows ≡ moved (db.trees 0)
  pub old_none : old_rows ≡ [] → db.trees 0 ≡ []
  pub new_is : entries_in new_rows ≡ map_of (db.trees 2)
  pub new_none : new_rows ≡ [] → db.trees 2 ≡ []

-- the table is now the one before with these rows laid over it
abbrev pub IsLaidOver : List Row → Database → Database → Type 0
IsLaidOver rows old new = table_of new ≡ laid rows (table_of old)

-- the rows of the old table have moved into the empty new one, or there are none
abbrev pub Settles : List Row → List Row → Database → Database → Type 0
Settles old_rows new_rows old new =
    ((old_rows ≡ []) × (new ≡ old))
    ⊎ ((new_rows ≡ []) × IsMoved new × IsLaidOver old_rows old new)

-- the tables of which it is asked are apart
pub record KnowsApart (db : Database) : Type 0 where
  pub first : db.schema ≡ old_schema → AreApart (db.trees 0)
  pub both : db.schema ≡ both_schema → AreBothApart db

-- one of the three schemas that a known database may have before it is opened
abbrev pub IsOurs : Database → Type 0
IsOurs db = IsOurSchema db.schema

-- rows in order, whose numbers are not below 0
pub record AreSorted (rows : List Row) : Type 0 where
  pub rising : IsRising (plain rows)
  pub least : AreNumbered rows

-- the numbers of the table that is made of these rows
pub record AreNumbersOf (old_rows new_rows : List Row) (numbers : Map) : Type 0 where
  pub stays : old_rows ≡ [] → numbers ≡ numbers_of (entries_in new_rows)
  pub moves : (old_rows ≡ [] → ⊥) → numbers ≡ numbers_of (entries_in old_rows)

-- What the opening found out of a database: whether it is known, and then the numbers behind the
-- opening.
pub record FoundOut (is_apart : Bool) (numbers : Map) (old new : Database) : Type 0 where
  pub apart : IsTrue is_apart → KnowsApart old
  -- where there was the old table alone it was decided once the new one was made
  pub first : old.schema ≡ old_schema → IsDecidedFirst old is_apart
  pub both : old.schema ≡ both_schema → IsDecided old is_apart
  pub numbered : IsOurs old → KnowsApart old → numbers ≡ numbers_of (table_of new)

-- rows were read of both tables, and moved where the old one had some
pub record AreSettled (is_apart : Bool) (numbers : Map) (mid new : Database) : Type 0 where
  pub decided : mid.schema ≡ both_schema → IsDecided mid is_apart
  pub old_rows : List Row
  pub new_rows : List Row
  pub read : mid.schema ≡ both_schema → AreRead old_rows new_rows mid
  pub apart : mid.schema ≡ both_schema → IsTrue is_apart → AreBothApart mid
  pub settled : IsReady mid → AreApart (mid.trees 0) → Settles old_rows new_rows mid new
  pub numbered : AreNumbersOf old_rows new_rows numbers
