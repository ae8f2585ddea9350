-- The rows of the tables as maps from keys to values and numbers, and what a statement makes of
-- them.
use Rattle.std.specs.Prelude.{◌≡◌, ◌≢◌, ℕ, ℤ, pos, Bool, false, if◌then◌else◌, List, [], ◌∷◌, Option, Some, None, IsTrue, ⊤}
use Rattle.std.specs.List.{AllByRecursion}
use Rattle.sqlite.specs.declared.types.Value.{Value}
use Rattle.sqlite.specs.declared.types.Value.TheVariants.{Null, Int, Real, Text, Blob}
use Rattle.sqlite.specs.Order.{Row, column}
use Rattle.sqlite_rules.specs.Edit.{id_in}
use Rattle.sqlite.specs.Effect.{Database}
use Rattle.sqlite.specs.State.{State, KeepsCommit}
use Rattle.txn_names.specs.Path.{label_eq}
use Rattle.durable_top.specs.Numbered.{Numbered, under}
use Rattle.sql_store.specs.Laid.{put}
use Rattle.sql_store.specs.Results.{both_schema}

-- whether a value of SQL is the text of this key
abbrev pub is_key : List ℕ → Value → Bool
is_key k Null = false
is_key k (Int n) = false
is_key k (Real x) = false
is_key k (Text t) = label_eq t k
is_key k (Blob b) = false

abbrev pub int_in : Value → Option ℤ
int_in Null = None
int_in (Int n) = Some n
int_in (Real x) = None
int_in (Text t) = None
int_in (Blob b) = None

abbrev pub both : Option ℤ → Option ℤ → Option (ℤ × ℤ)
both None n = None
both (Some v) None = None
both (Some v) (Some n) = Some (v, n)

-- what a row of the new table gives its key, and one of the old table
abbrev pub entry_of : Row → Option (ℤ × ℤ)
entry_of r = both (int_in (column r 2)) (int_in (column r 3))

abbrev pub old_entry : Row → Option (ℤ × ℤ)
old_entry r = under (pos 0) (int_in (column r 2))

-- what each key has in rows whose second column is the key
abbrev pub map_by : (Row → Option (ℤ × ℤ)) → List Row → Numbered
map_by entry [] k = None
map_by entry (r ∷ rows) k = if is_key k (column r 1) then entry r else map_by entry rows k

abbrev pub map_of : List Row → Numbered
map_of = map_by entry_of

-- the old table as a new one, where each number is 0
abbrev pub moved : List Row → Numbered
moved = map_by old_entry

abbrev pub id_of : Row → ℤ
id_of r = id_in (column r 0)

-- each rowid is a whole number, and none comes twice
abbrev pub AreApart : List Row → Type 0
AreApart [] = ⊤
AreApart (r ∷ rows) =
    (column r 0 ≡ Int (id_of r)) × AllByRecursion (λ q. id_of q ≢ id_of r) rows × AreApart rows

-- in each of the two tables no rowid comes twice
abbrev pub AreBothApart : Database → Type 0
AreBothApart db = AreApart (db.trees 0) × AreApart (db.trees 2)

-- a database of the two tables alone
pub record IsReady (db : Database) : Type 0 where
  pub schema : db.schema ≡ both_schema
  pub apart : AreApart (db.trees 2)

-- whose old table has no row
pub record IsMoved (db : Database) : Type 0 where
  pub ready : IsReady db
  pub empty : db.trees 0 ≡ []

-- the old table has the rows that it had, and the new one
abbrev pub KeepsOldTree : Database → Database → Type 0
KeepsOldTree old new = new.trees 0 ≡ old.trees 0

abbrev pub KeepsNewTree : Database → Database → Type 0
KeepsNewTree old new = new.trees 2 ≡ old.trees 2

abbrev pub table_of : Database → Numbered
table_of db = map_of (db.trees 2)

-- a statement in a transaction gives the key this value and number, or takes it away, and leaves
-- the old table
pub record Makes (key : List ℕ) (entry : Option (ℤ × ℤ)) (old new : State) : Type 0 where
  pub was_open : IsTrue old.is_open
  pub inside : IsTrue new.in_transaction
  pub kept : KeepsCommit old new
  pub ready : IsReady old.now → IsReady new.now
  pub table : IsReady old.now → table_of new.now ≡ put (table_of old.now) key entry
  pub others : IsReady old.now → KeepsOldTree old.now new.now

-- while it is open, it has the two tables alone
abbrev pub IsKnown : State → Type 0
IsKnown s = IsTrue s.is_open → s.now.schema ≡ both_schema
