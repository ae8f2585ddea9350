-- What a store asked of its connection, and what it was answered, whatever the database has.
use Rattle.std.specs.Prelude.{◌≡◌, ◌⊎◌, ◌<◌, ◌≤◌, ℕ, ℤ, pos, Bool, false, true, List, [], ◌∷◌, ◌++◌, length, map, codes, Option, Some, None, is_some, is_none, ◌&&◌, unwrap_or, Result, Ok, Err, OnOk, IfErr, IfSome, IsTrue}
use Rattle.std.specs.List.{list_all}
use Rattle.sqlite.specs.declared.types.Value.TheVariants.{Text, Int}
use Rattle.sqlite.specs.declared.error.Error.{Error}
use Rattle.sqlite.specs.Order.{Row as Values}
use Rattle.sqlite.specs.Store.{Ghosts}
use Rattle.sqlite.specs.Held.{Held, state}
use Rattle.sqlite.specs.State.{Shown, Shows, ExecutesInside, FailsToQuery}
use Rattle.txn_names.specs.declared.change.Change.{Change}
use Rattle.serial_spec.specs.Serial.{Map}
use Rattle.durable_top.specs.declared.store.Row.{Row}
use Rattle.sql_store.specs.Calls.{IfInside, ChangesNothing, ErrorHasReason}
use Rattle.sql_store.specs.Faults.{breaks_rule, IsCaused}
use Rattle.sql_store.specs.Inside.{AreNumbersOf, Steps}
use Rattle.sql_store.specs.Load.{load_text, old_text}
use Rattle.sql_store.specs.Reading.{told, seen, seen_old}

abbrev pub create_old_text : List ℕ
create_old_text = codes "CREATE TABLE IF NOT EXISTS results (k TEXT NOT NULL PRIMARY KEY, v INTEGER NOT NULL) STRICT"

abbrev pub create_text : List ℕ
create_text = codes "CREATE TABLE IF NOT EXISTS results2 (k TEXT NOT NULL PRIMARY KEY, v INTEGER NOT NULL, n INTEGER NOT NULL) STRICT"

abbrev pub upsert_text : List ℕ
upsert_text = codes "INSERT INTO results2 (k, v, n) VALUES (?1, ?2, ?3) ON CONFLICT (k) DO UPDATE SET v = excluded.v, n = excluded.n"

abbrev pub update_text : List ℕ
update_text = codes "UPDATE results2 SET v = ?2, n = ?3 WHERE k = ?1"

abbrev pub insert_text : List ℕ
insert_text = codes "INSERT INTO results2 (k, v, n) VALUES (?1, ?2, ?3)"

-- the same for 4 rows, and for 16
abbrev pub insert_4_text : List ℕ
insert_4_text = codes "INSERT INTO results2 (k, v, n) VALUES (?1, ?2, ?3), (?4, ?5, ?6), (?7, ?8, ?9), (?10, ?11, ?12)"

abbrev pub insert_16_text : List ℕ
insert_16_text = codes "INSERT INTO results2 (k, v, n) VALUES (?1, ?2, ?3), (?4, ?5, ?6), (?7, ?8, ?9), (?10, ?11, ?12), (?13, ?14, ?15), (?16, ?17, ?18), (?19, ?20, ?21), (?22, ?23, ?24), (?25, ?26, ?27), (?28, ?29, ?30), (?31, ?32, ?33), (?34, ?35, ?36), (?37, ?38, ?39), (?40, ?41, ?42), (?43, ?44, ?45), (?46, ?47, ?48)"

-- the statement that is tried first: the update where the key is likely to have a row, or else the
-- insert
abbrev pub first_text : Bool → List ℕ
first_text true = update_text
first_text false = insert_text

-- a key is likely to have a row where it has a number
abbrev pub text_for : Map → List ℕ → List ℕ
text_for numbers key = first_text (is_some (numbers key))

abbrev pub delete_text : List ℕ
delete_text = codes "DELETE FROM results2 WHERE k = ?1"

abbrev pub empty_text : List ℕ
empty_text = codes "DELETE FROM results"

-- the parameters of the statements that give a key this value under a number
abbrev pub params_for : ℤ → List ℕ → ℤ → Values
params_for number key value = Text key ∷ Int value ∷ Int number ∷ []

abbrev pub params_of : Row → Values
params_of r = params_for r.commit r.key r.value

-- none of the changes is a removal
abbrev pub have_values : List Change → Bool
have_values = list_all (λ c. is_some c.value)

-- the value that a change gives its key, and 0 at a removal, which is never among the rows of an
-- insert
abbrev pub value_of : Change → ℤ
value_of c = unwrap_or c.value (pos 0)

-- the parameters of the statements that give each key its value under a number, row after row
abbrev pub params_all : ℤ → List Change → Values
params_all number [] = []
params_all number (c ∷ more) = Text c.key ∷ Int (value_of c) ∷ Int number ∷ params_all number more

-- 4 or 16 changes, of which none is a removal
pub record AreRows (changes : List Change) : Type 0 where
  pub values : IsTrue (have_values changes)
  pub count : (length changes ≡ 4) ⊎ (length changes ≡ 16)

-- what is made by itself or by one statement
abbrev pub IsPiece : List Change → Type 0
IsPiece changes = (length changes ≡ 1) ⊎ AreRows changes

-- the change gives a value to a key that has no number, and so is likely to have no row
abbrev pub is_new : Map → Change → Bool
is_new numbers c = is_some c.value && is_none (numbers c.key)

-- where so many changes are likely new, 16 or 4 of them go together, or else one change by itself
abbrev pub IsPieceLen : ℕ → ℕ → Type 0
IsPieceLen fresh size =
    ((fresh < 4) × (size ≡ 1))
    ⊎ (((4 ≤ fresh) × (fresh < 16) × (size ≡ 4)) ⊎ ((16 ≤ fresh) × (size ≡ 16)))

-- changes that stand one behind another, cut into pieces
abbrev pub joined : List (List Change) → List Change
joined [] = []
joined (piece ∷ more) = piece ++ joined more

-- the connection with a transaction begun
abbrev pub begun : {S : Type 0} → Held S → Held S
begun h = record h { in_transaction = true }

module _ {S : Type 0} (g : Ghosts S) where
  -- What a call in a transaction says. Nothing is committed, and a crash leaves what it could leave
  -- before. An error that stands for a failure of the device has one as its cause. A call that
  -- succeeds did the one, and one that fails gave its error as the other says.
  pub record Answers (Did : Held S → Held S → Type 0) (Gave : Held S → Held S → Error → Type 0)
      (old new : Held S) (result : Result (Unit {0}) Error) : Type 0 where
    pub steps : Steps (state g old) (state g new)
    pub cause : IfInside g old new (IfErr result (IsCaused (state g old) (state g new)))
    pub refused : IfInside g old new (IfErr result (Gave old new))
    pub asked : IfInside g old new (OnOk result (Did old new))

  -- the statement was executed in a transaction, and this was its answer
  abbrev pub Answered : List ℕ → Values → Held S → Held S → Result ℕ Error → Type 0
  Answered text params old new = ExecutesInside 0 text params (state g old) (state g new)

  -- it was executed without an error
  abbrev pub Executed : List ℕ → Values → Held S → Held S → Type 0
  Executed text params old new = (count : ℕ) × Answered text params old new (Ok count)

  -- it gave the error
  abbrev pub StatementGives : List ℕ → Values → Held S → Held S → Error → Type 0
  StatementGives text params old new e = Answered text params old new (Err e)

  -- The same where the error is told of only as a refusal, for this reason.
  abbrev pub DoesUnless : (Held S → Held S → Type 0) → (Held S → Type 0)
      → Held S → Held S → Result (Unit {0}) Error → Type 0
  DoesUnless Did Why = Answers Did (ErrorHasReason Why)

  -- a call that executes one statement
  abbrev pub RunsStatement : List ℕ → Values → Held S → Held S → Result (Unit {0}) Error → Type 0
  RunsStatement text params = Answers (Executed text params) (StatementGives text params)

  -- the update met a row of the key
  abbrev pub Updated : Values → Held S → Held S → Type 0
  Updated params old new =
      (count : ℕ) × (0 < count) × Answered update_text params old new (Ok count)

  -- the update met no row, or the insert was refused since it would have broken a rule of the table
  abbrev pub IsLeft : Values → Held S → Held S → Type 0
  IsLeft params old new =
      Answered update_text params old new (Ok 0)
      ⊎ ((e : Error) × IsTrue (breaks_rule e) × Answered insert_text params old new (Err e))

  -- A row was put: by an update that met one, by an insert, or by the upsert where one of these
  -- left it to that.
  abbrev pub PutsRow : Values → Held S → Held S → Type 0
  PutsRow params old new =
      Updated params old new
      ⊎ (Executed insert_text params old new
      ⊎ ((next : Held S) × IsLeft params old next × Executed upsert_text params next new))

  -- the statement was tried first: it was executed alone, or the upsert was executed behind it
  abbrev pub TriesFirst : List ℕ → Values → Held S → Held S → Type 0
  TriesFirst text params old new =
      ((answer : Result ℕ Error) × Answered text params old new answer)
      ⊎ ((next : Held S) × (first last : Result ℕ Error)
      × Answered text params old next first × Answered upsert_text params next new last)

  -- the update, the insert, or the upsert to which one of them left the row gave the error
  abbrev pub PutGives : Values → Held S → Held S → Error → Type 0
  PutGives params old new e =
      Answered update_text params old new (Err e)
      ⊎ (((breaks_rule e ≡ false) × Answered insert_text params old new (Err e))
      ⊎ ((next : Held S) × IsLeft params old next × Answered upsert_text params next new (Err e)))

  -- a call that puts a row
  abbrev pub RunsPut : Values → Held S → Held S → Result (Unit {0}) Error → Type 0
  RunsPut params = Answers (PutsRow params) (PutGives params)

  -- where the change gives a value, the statement that is likely to serve was tried first
  abbrev pub TriesChange : Map → ℤ → Change → Held S → Held S → Type 0
  TriesChange numbers number change old new = IfSome change.value (λ value.
      TriesFirst (text_for numbers change.key) (params_for number change.key value) old new)

  -- the key was given its value under the number, or its row was deleted
  abbrev pub MakesChange : ℤ → List ℕ → Option ℤ → Held S → Held S → Type 0
  MakesChange number key None old new = Executed delete_text (Text key ∷ []) old new
  MakesChange number key (Some value) old new = PutsRow (params_for number key value) old new

  -- a statement that was to do so gave the error
  abbrev pub FailsToChange : ℤ → List ℕ → Option ℤ → Held S → Held S → Error → Type 0
  FailsToChange number key None old new e = Answered delete_text (Text key ∷ []) old new (Err e)
  FailsToChange number key (Some value) old new e = PutGives (params_for number key value) old new e

  -- a call that does so
  abbrev pub RunsChange : ℤ → List ℕ → Option ℤ
      → Held S → Held S → Result (Unit {0}) Error → Type 0
  RunsChange number key value =
      Answers (MakesChange number key value) (FailsToChange number key value)

  -- each of these changes was made by statements of its own, in turn
  abbrev pub MakesEach : ℤ → List Change → Held S → Held S → Type 0
  MakesEach number [] old new = new ≡ old
  MakesEach number (c ∷ more) old new =
      (next : Held S) × MakesChange number c.key c.value old next × MakesEach number more next new

  -- the changes before one of these were made in turn, and a statement of that one gave the error
  pub record EachGives (number : ℤ) (changes : List Change) (old new : Held S) (e : Error)
      : Type 0 where
    pub before : List Change
    pub change : Change
    pub after : List Change
    pub are : changes ≡ before ++ change ∷ after
    pub last : Held S
    pub executed : MakesEach number before old last
    pub gives : FailsToChange number change.key change.value last new e

  -- a call that makes them so
  abbrev pub RunsEach : ℤ → List Change → Held S → Held S → Result (Unit {0}) Error → Type 0
  RunsEach number changes = Answers (MakesEach number changes) (EachGives number changes)

  -- one insert that was to add the rows of all these changes was executed, and this was its answer
  abbrev pub AnsweredRows : ℤ → List Change → Held S → Held S → Result ℕ Error → Type 0
  AnsweredRows number rows old new result =
      IsTrue (have_values rows)
      × (((length rows ≡ 4) × Answered insert_4_text (params_all number rows) old new result)
      ⊎ ((length rows ≡ 16) × Answered insert_16_text (params_all number rows) old new result))

  -- that insert was refused since it would have broken a rule of the table
  abbrev pub AreLeft : ℤ → List Change → Held S → Held S → Type 0
  AreLeft number rows old new =
      (e : Error) × IsTrue (breaks_rule e) × AnsweredRows number rows old new (Err e)

  -- Several changes were made: by one insert of all their rows, or each in turn where that left
  -- them.
  abbrev pub MakesRows : ℤ → List Change → Held S → Held S → Type 0
  MakesRows number rows old new =
      ((count : ℕ) × AnsweredRows number rows old new (Ok count))
      ⊎ ((next : Held S) × AreLeft number rows old next × MakesEach number rows next new)

  -- that insert gave the error, or a statement of one of the changes that it left
  abbrev pub RowsGive : ℤ → List Change → Held S → Held S → Error → Type 0
  RowsGive number rows old new e =
      ((breaks_rule e ≡ false) × AnsweredRows number rows old new (Err e))
      ⊎ ((next : Held S) × AreLeft number rows old next × EachGives number rows next new e)

  -- a call that makes them so
  abbrev pub RunsRows : ℤ → List Change → Held S → Held S → Result (Unit {0}) Error → Type 0
  RunsRows number rows = Answers (MakesRows number rows) (RowsGive number rows)

  -- a piece of the changes was made: one change, or several
  abbrev pub MakesPiece : ℤ → List Change → Held S → Held S → Type 0
  MakesPiece number piece old new =
      ((length piece ≡ 1) × MakesEach number piece old new) ⊎ MakesRows number piece old new

  abbrev pub PieceGives : ℤ → List Change → Held S → Held S → Error → Type 0
  PieceGives number piece old new e =
      ((length piece ≡ 1) × EachGives number piece old new e) ⊎ RowsGive number piece old new e

  -- a call that makes a piece
  abbrev pub RunsPiece : ℤ → List Change → Held S → Held S → Result (Unit {0}) Error → Type 0
  RunsPiece number piece = Answers (MakesPiece number piece) (PieceGives number piece)

  abbrev pub MakesPieces : ℤ → List (List Change) → Held S → Held S → Type 0
  MakesPieces number [] old new = new ≡ old
  MakesPieces number (piece ∷ more) old new =
      (next : Held S) × MakesPiece number piece old next × MakesPieces number more next new

  -- each change was made: they are cut into pieces, which were made in turn
  abbrev pub ExecutedEach : ℤ → List Change → Held S → Held S → Type 0
  ExecutedEach number changes old new =
      (pieces : List (List Change)) × (changes ≡ joined pieces) × MakesPieces number pieces old new

  -- the changes before a piece were made in a transaction that was begun, and a statement of that
  -- piece gave the error
  pub record ChangeGives (number : ℤ) (changes : List Change) (old : Held S) (e : Error)
      : Type 0 where
    pub before : List Change
    pub piece : List Change
    pub after : List Change
    pub are : changes ≡ before ++ piece ++ after
    pub last : Held S
    pub left : Held S
    pub executed : ExecutedEach number before old last
    pub gives : PieceGives number piece last left e

  -- a call that makes all changes
  abbrev pub RunsAll : ℤ → List Change → Held S → Held S → Result (Unit {0}) Error → Type 0
  RunsAll number changes =
      Answers (ExecutedEach number changes) (λ old _ e. ChangeGives number changes old e)

  -- a transaction was open, or a statement of a change in one that was begun gave the error
  abbrev pub WriteGives : ℤ → List Change → Held S → Error → Type 0
  WriteGives number changes old e =
      IsTrue old.in_transaction ⊎ ChangeGives number changes (begun old) e

  -- the transaction was committed
  abbrev pub CommitsAll : Held S → Held S → Type 0
  CommitsAll old new = Shows (state g old) (state g new) (state g old).now (state g old).now false

  -- a transaction was begun, each change was made in it, and it was committed
  pub record Transacted (number : ℤ) (changes : List Change) (old new : Held S) : Type 0 where
    pub outside : old.in_transaction ≡ false
    pub last : Held S
    pub executed : ExecutedEach number changes (begun old) last
    pub committed : CommitsAll last new

  -- of no change nothing is made
  abbrev pub Committed : ℤ → List Change → Held S → Held S → Type 0
  Committed number [] old new = ChangesNothing g old new
  Committed number (c ∷ more) old new = Transacted number (c ∷ more) old new

  -- these are the rows that a query was answered
  abbrev pub IsAnswered : List ℕ → Held S → Held S → List Values → Type 0
  IsAnswered text old new rows = Shown text [] (state g old) (state g new) rows

  -- a query gave the error
  abbrev pub QueryFails : List ℕ → Held S → Held S → Error → Type 0
  QueryFails text old new e = FailsToQuery text [] (state g old) (state g new) e

  -- these are the rows that the query for all rows was answered
  abbrev pub Fetched : Held S → Held S → List Values → Type 0
  Fetched old new rows =
      (asked : Held S) × ChangesNothing g old asked × IsAnswered load_text asked new rows

  -- these are the rows that the query was answered, read as keys, values and numbers
  abbrev pub Loaded : Held S → Held S → List Row → Type 0
  Loaded old new rows =
      (answer : List Values) × Fetched old new answer × (map told rows ≡ map seen answer)

  -- ---- the opening, inside its transaction

  -- the statements that make the tables where they are missing were executed
  abbrev pub MakesTables : Held S → Held S → Type 0
  MakesTables old new =
      (first : Held S)
      × Executed create_old_text [] old first × Executed create_text [] first new

  -- these are the rows that the queries for each table were answered, read as rows; those of the
  -- old table get the number 0
  abbrev pub ReadsOld : Held S → Held S → List Row → Type 0
  ReadsOld old new rows =
      (answer : List Values)
      × IsAnswered old_text old new answer × (map told rows ≡ map seen_old answer)

  abbrev pub ReadsNew : Held S → Held S → List Row → Type 0
  ReadsNew old new rows =
      (answer : List Values)
      × IsAnswered load_text old new answer × (map told rows ≡ map seen answer)

  abbrev pub ReadsBoth : Held S → Held S → List Row → List Row → Type 0
  ReadsBoth old new old_rows new_rows =
      (next : Held S) × ReadsOld old next old_rows × ReadsNew next new new_rows

  -- each row was put into the new table, the last of them first
  abbrev pub PutsEach : List Row → Held S → Held S → Type 0
  PutsEach [] old new = new ≡ old
  PutsEach (r ∷ rows) old new =
      (next : Held S)
      × PutsEach rows old next × Executed upsert_text (params_of r) next new

  -- the same, and then the old table was emptied
  abbrev pub MovesOver : List Row → Held S → Held S → Type 0
  MovesOver rows old new = (put : Held S) × PutsEach rows old put × Executed empty_text [] put new

  -- where the old table has rows the new one has none, and they were moved into it
  abbrev pub MovesRows : List Row → List Row → Held S → Held S → Type 0
  MovesRows [] new_rows old new = new ≡ old
  MovesRows (r ∷ rows) new_rows old new =
      (new_rows ≡ []) × MovesOver (r ∷ rows) old new

  -- the tables were read, and their rowids were asked for
  abbrev pub Finds : Held S → Held S → List Row → List Row → Type 0
  Finds old new old_rows new_rows =
      (read : Held S) × ReadsBoth old read old_rows new_rows × ChangesNothing g read new

  -- the same, the rows of the old one were moved, and these are the numbers of what was read
  pub record SettlesInside (numbers : Map) (old new : Held S) : Type 0 where
    pub found : Held S
    pub old_rows : List Row
    pub new_rows : List Row
    pub finds : Finds old found old_rows new_rows
    pub moves : MovesRows old_rows new_rows found new
    pub numbered : AreNumbersOf old_rows new_rows numbers

  -- the tables were made before
  abbrev pub OpensInside : Map → Held S → Held S → Type 0
  OpensInside numbers old new =
      (made : Held S) × MakesTables old made × SettlesInside numbers made new

  -- that was done in one transaction, which was committed
  pub record Made (numbers : Map) (old new : Held S) : Type 0 where
    pub outside : old.in_transaction ≡ false
    pub last : Held S
    pub inside : OpensInside numbers (begun old) last
    pub committed : CommitsAll last new
