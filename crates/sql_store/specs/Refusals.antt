-- Why a store refuses what it is asked.
use Rattle.std.specs.Prelude.{◌≡◌, ◌⊎◌, ◌<ℤ◌, ◌+ℤ◌, ℕ, ℤ, pos, List, [], ◌∷◌, ◌++◌, map, Contains, Option, Some, None, Result, Ok, Err, IsTrue}
use Rattle.sqlite.specs.declared.types.Value.{Value}
use Rattle.sqlite.specs.declared.types.Value.TheVariants.{Null, Int, Real, Text, Blob}
use Rattle.sqlite.specs.declared.error.Error.{Error}
use Rattle.sqlite.specs.Order.{column, Row as Values}
use Rattle.sqlite.specs.Store.{Ghosts}
use Rattle.sqlite.specs.Held.{Held}
use Rattle.txn_names.specs.declared.change.Change.{Change}
use Rattle.txn_names.specs.declared.key.KeyFault.{KeyFault}
use Rattle.txn_names.specs.Reading.{key_of}
use Rattle.serial_spec.specs.Rows.{IsRising}
use Rattle.durable_top.specs.declared.store.Row.{Row}
use Rattle.durable_top.specs.Numbered.{last_number}
use Rattle.durable_top.specs.Store.{plain}
use Rattle.sql_store.specs.Asked.{create_old_text, create_text, upsert_text, empty_text, params_of, begun, Executed, StatementGives, IsAnswered, QueryFails, Fetched, ChangeGives, MakesTables, ReadsOld, ReadsBoth, Finds, PutsEach}
use Rattle.sql_store.specs.Calls.{ChangesNothing}
use Rattle.sql_store.specs.Faults.{fault_of, IsRefusal}
use Rattle.sql_store.specs.Load.{load_text, old_text, ids_text, old_ids_text}
use Rattle.sql_store.specs.Reading.{told, seen, seen_old}
use Rattle.sql_store.specs.Table.{int_in}

-- the key that a value is the text of
abbrev pub key_or_none : Result (List ℕ) KeyFault → Option (List ℕ)
key_or_none (Ok key) = Some key
key_or_none (Err fault) = None

abbrev pub key_in : Value → Option (List ℕ)
key_in Null = None
key_in (Int n) = None
key_in (Real x) = None
key_in (Text t) = key_or_none (key_of t)
key_in (Blob b) = None

-- a value is no number of a commit: no whole number, or one below 0
abbrev pub IsNoNumber : Value → Type 0
IsNoNumber v = (int_in v ≡ None) ⊎ ((n : ℤ) × (int_in v ≡ Some n) × (n <ℤ pos 0))

-- its first column is no key, or its second no whole number
abbrev pub IsUnreadOld : Values → Type 0
IsUnreadOld row = (key_in (column row 0) ≡ None) ⊎ (int_in (column row 1) ≡ None)

-- the same, or its third column is no number of a commit
abbrev pub IsUnread : Values → Type 0
IsUnread row = IsUnreadOld row ⊎ IsNoNumber (column row 2)

-- these are no rows of a store: one cannot be read, or they do not stand in byte order of their
-- keys, one for each
abbrev pub AreNoRows : List Values → Type 0
AreNoRows answer = ((row : Values) × Contains answer row × IsUnread row)
    ⊎ ((read : List Row) × (map told read ≡ map seen answer) × (IsRising (plain read) → ⊥))

abbrev pub AreNoOldRows : List Values → Type 0
AreNoOldRows answer = ((row : Values) × Contains answer row × IsUnreadOld row)
    ⊎ ((read : List Row) × (map told read ≡ map seen_old answer) × (IsRising (plain read) → ⊥))

module _ {S : Type 0} (g : Ghosts S) where
  -- an error that is no failure and no want of memory came of this, and all is as it left it
  abbrev pub WasRefused : (Held S → Error → Type 0) → Held S → Type 0
  WasRefused Gives new =
      (left : Held S) × (e : Error)
      × Gives left e × IsRefusal (fault_of e) × ChangesNothing g left new

  -- this query gave the error
  abbrev pub QueryGives : List ℕ → Held S → Held S → Error → Type 0
  QueryGives text old new e =
      (asked : Held S) × ChangesNothing g old asked × QueryFails g text asked new e

  -- the query for all rows was refused, or its answer was no rows of a store
  abbrev pub CannotLoad : Held S → Held S → Type 0
  CannotLoad old new = IsTrue old.in_transaction
      ⊎ (WasRefused (QueryGives load_text old) new
      ⊎ ((answer : List Values) × Fetched g old new answer × AreNoRows answer))

  -- a statement of a change was refused in the transaction
  abbrev pub CannotWrite : ℤ → List Change → Held S → Held S → Type 0
  CannotWrite number changes old new =
      IsTrue old.in_transaction
      ⊎ WasRefused (λ left e. ChangeGives g number changes (begun old) e) new

  -- the same, or no number is left above the greatest
  abbrev pub CannotCommit : ℤ → List Change → Held S → Held S → Type 0
  CannotCommit top changes old new =
      CannotWrite (top +ℤ pos 1) changes old new ⊎ ((changes ≡ [] → ⊥) × (top ≡ last_number))

  -- ---- the opening, inside its transaction

  -- a statement was refused, or a query was
  abbrev pub StatementRefused : List ℕ → Values → Held S → Type 0
  StatementRefused text params old =
      (left : Held S) × (e : Error)
      × StatementGives g text params old left e × IsRefusal (fault_of e)

  abbrev pub QueryRefused : List ℕ → Held S → Type 0
  QueryRefused text old =
      (left : Held S) × (e : Error)
      × QueryFails g text old left e × IsRefusal (fault_of e)

  -- a statement that makes a table was refused
  abbrev pub CannotMake : Held S → Type 0
  CannotMake old = StatementRefused create_old_text [] old
      ⊎ ((first : Held S)
      × Executed g create_old_text [] old first × StatementRefused create_text [] first)

  -- the query for the rows of a table was refused, or its answer was no rows of a store
  abbrev pub CannotReadOld : Held S → Type 0
  CannotReadOld old = QueryRefused old_text old
      ⊎ ((new : Held S) × (answer : List Values)
      × IsAnswered g old_text old new answer × AreNoOldRows answer)

  abbrev pub CannotReadNew : Held S → Type 0
  CannotReadNew old = QueryRefused load_text old
      ⊎ ((new : Held S) × (answer : List Values)
      × IsAnswered g load_text old new answer × AreNoRows answer)

  abbrev pub CannotReadBoth : Held S → Type 0
  CannotReadBoth old = CannotReadOld old
      ⊎ ((next : Held S) × (rows : List Row) × ReadsOld g old next rows × CannotReadNew next)

  -- a query for the rowids of a table was refused
  abbrev pub CannotAsk : Held S → Type 0
  CannotAsk old = QueryRefused old_ids_text old
      ⊎ ((next : Held S) × ChangesNothing g old next × QueryRefused ids_text next)

  -- the rows behind a row were put into the new table, and the statement for it was refused
  pub record PutRefused (rows : List Row) (old : Held S) : Type 0 where
    pub before : List Row
    pub row : Row
    pub after : List Row
    pub are : rows ≡ before ++ row ∷ after
    pub last : Held S
    pub put : PutsEach g after old last
    pub refused : StatementRefused upsert_text (params_of row) last

  -- a row could not be put into the new table, or the old ones not be deleted
  abbrev pub CannotMoveOver : List Row → Held S → Type 0
  CannotMoveOver rows old = PutRefused rows old
      ⊎ ((put : Held S) × PutsEach g rows old put × StatementRefused empty_text [] put)

  -- both tables have rows, or a row could not be moved
  abbrev pub CannotMove : List Row → List Row → Held S → Type 0
  CannotMove old_rows new_rows old =
      ((old_rows ≡ [] → ⊥) × (new_rows ≡ [] → ⊥)) ⊎ CannotMoveOver old_rows old

  abbrev pub CannotFind : Held S → Type 0
  CannotFind old = CannotReadBoth old
      ⊎ ((read : Held S) × (old_rows new_rows : List Row)
      × ReadsBoth g old read old_rows new_rows × CannotAsk read)

  abbrev pub CannotSettle : Held S → Type 0
  CannotSettle old = CannotFind old
      ⊎ ((found : Held S) × (old_rows new_rows : List Row)
      × Finds g old found old_rows new_rows × CannotMove old_rows new_rows found)

  -- Some step of the opening was refused: the tables could not be made or read, or the rows of the
  -- old one not be moved.
  abbrev pub CannotOpenInside : Held S → Type 0
  CannotOpenInside old = CannotMake old
      ⊎ ((made : Held S) × MakesTables g old made × CannotSettle made)

  abbrev pub CannotOpen : Held S → Type 0
  CannotOpen old = IsTrue old.in_transaction ⊎ CannotOpenInside (begun old)
