-- What a database refuses is no failure of the device.
use Rattle.std.proofs.Common.{◌≡◌, ◌⊎◌, inl, inr, ℕ, ℤ, Bool, true, false, List, [], ◌∷◌, Option, Some, None, Err, sym, subst, slice_get}
use Rattle.std.specs.Prelude.{MatchBool, is_some}
use Rattle.sqlite_value.specs.Order.{Row}
use Rattle.sqlite_trees.specs.Tree.{Trees}
use Rattle.sqlite_schema.specs.declared.schema.Constraint.TheVariants.{ForeignKey}
use Rattle.sqlite_schema.specs.declared.schema.Keys.{Keys}
use Rattle.sqlite_schema.specs.declared.schema.Among.{Among}
use Rattle.sqlite_schema.specs.declared.schema.Table.{Table}
use Rattle.sqlite_schema.specs.declared.schema.Schema.{Schema}
use Rattle.sqlite_schema.specs.declared.program.Program.{Program}
use Rattle.sqlite_schema.specs.declared.command.Command.{Command}
use Rattle.sqlite_schema.specs.declared.command.Command.TheVariants.{Select, Insert, InsertOr, Update, Delete, CreateTable, CreateIndex, DropTable, DropIndex, CreateView, DropView, Rows}
use Rattle.sqlite_schema.specs.declared.command.Conflict.{Conflict}
use Rattle.sqlite_schema.specs.declared.command.Conflict.TheVariants.{Abort, Ignore, Replace}
use Rattle.sqlite_schema.specs.declared.command.Returning.{Returning}
use Rattle.sqlite_schema.specs.declared.command.Source.{Source}
use Rattle.sqlite_schema.specs.declared.command.Source.TheVariants as source
use Rattle.sqlite_schema.specs.declared.command.Upsert.{Upsert}
use Rattle.sqlite_rules.specs.declared.error.Refusal.{Refusal}
use Rattle.sqlite_rules.specs.declared.error.Refusal.TheVariants.{Violates, Mismatch, NoRowid, BadReference, TooDeep}
use Rattle.sqlite_rules.specs.declared.error.Rowids.TheVariants.{Given}
use Rattle.sqlite_rules.specs.Edit.{Edit, edit_of}
use Rattle.sqlite_rules.specs.Calls.{ids_of}
use Rattle.sqlite_schema.specs.Rules.{Refers}
use Rattle.std.specs.Option.{option_to_list}
use Rattle.sqlite_catalog.specs.Calls.{RefusesTable, RefusesIndex, RefusesView, RefusesToDropIndex}
use Rattle.sqlite_catalog.specs.Change.{without_index, without_table, without_view}
use Rattle.sqlite_catalog.specs.declared.error.Refusal as alter
use Rattle.sqlite_catalog.specs.declared.error.Refusal.TheVariants as why
use Rattle.sqlite.specs.declared.error.ErrorCode.TheVariants as code
use Rattle.sqlite.specs.declared.error.Error.{Error}
use Rattle.sqlite.specs.declared.error.Error.TheVariants.{SqliteFailure, InvalidQuery}
use Rattle.sqlite.specs.declared.run.Mode.{Mode}
use Rattle.sqlite.specs.Effect.{Database, RefusesQuery, RefusesToRead, RefusesSource, RefusesToAlter, IsNoText, edit_error, alter_error}
use Rattle.sqlite.specs.Rows.{Part, Gives, Refuses, Then, Queried, Sourced, Edited, Written, Task, CounterIn, Counter, counting, CountsIn, Counts, Updates, Deletes, Inserts, Puts, Clears, Resolves, Meets, Upserts, Judged, Tries, TriesEach, InsertsOr}
use Rattle.sqlite.specs.Does.{IsKeptAside, Tested, AtPlace, MakesTable, MakesSequence, MakesIndex, MakesView, Leaves, Counted, Defines, Shows, Returns, Concludes, WritesRows, OnRows, is_acted_on, Empties, UncountsIn, HoldWithout, Drops, Redefines, Does}
use Rattle.durable_top.specs.declared.store.StoreFault.TheVariants.{Refused, Failed}
use Rattle.sql_store.specs.Faults.{fault_of}

abbrev pub IsCalm : Error → Type 0
IsCalm e = fault_of e ≡ Failed → ⊥

-- the part stops with no failure of the device
record Calm {A : Type 0} (P : Part A) : Type 0 where
  stops : (e : Error) → P (Err (Some e)) → IsCalm e

pub apart : Refused ≡ Failed → ⊥
apart h = cc

pub calm_as : (x e : Error) → e ≡ x → IsCalm x → IsCalm e
calm_as x e same calm = subst IsCalm (sym same) calm

gives : {A : Type 0} (a : A) → Calm (Gives a)
gives a = record { stops = λ e h. absurd (let k = h in cc) }

refuses : {A : Type 0} (x : Error) → IsCalm x → Calm {A = A} (Refuses x)
refuses x calm = record { stops = λ e h. let k = h in let same : e ≡ x = cc in calm_as x e same calm }

in_turn : {A B : Type 0} (F : Part A) (N : A → Part B) → Calm F → ((a : A) → Calm (N a)) → Calm (Then F N)
in_turn {A} {B} F N f n = record { stops = each }
  where
    each : (e : Error) → Then F N (Err (Some e)) → IsCalm e
    each e (inl (None, h, same)) = absurd cc
    each e (inl (Some x, h, same)) = let k : e ≡ x = cc in calm_as x e k (f.stops x h)
    each e (inr (a, h, next)) = (n a).stops e next

either : {A : Type 0} (b : Bool) (P Q : Part A) → Calm P → Calm Q → Calm (λ out. MatchBool b (P out) (Q out))
either true P Q p q = record { stops = p.stops }
either false P Q p q = record { stops = q.stops }

-- ---- the parts of a statement

edit_calm : (r : Refusal) → IsCalm (edit_error r)
edit_calm (Violates rule) = apart
edit_calm Mismatch = apart
edit_calm NoRowid = apart
edit_calm BadReference = apart
edit_calm TooDeep = apart

edited : (schema : Schema) (keys : Keys) (db : Trees) (edit : Edit) → Calm (Edited schema keys db edit)
edited schema keys db edit = record { stops = each }
  where
    each : (e : Error) → Edited schema keys db edit (Err (Some e)) → IsCalm e
    each e (None, w, same) = absurd cc
    each e (Some r, w, same) = let k : e ≡ edit_error r = cc in calm_as (edit_error r) e k (edit_calm r)

query_calm : (limit : Option ℕ) (db : Database) (q : Program) (params : Row) (e : Error) → RefusesQuery limit db q params e → IsCalm e
query_calm limit db q params e (inl h) = calm_as _ e h.0 apart
query_calm limit db q params e (inr (inl h)) = calm_as _ e h.0 apart
query_calm limit db q params e (inr (inr h)) = calm_as _ e h.0 apart

pub read_calm : (limit : Option ℕ) (command : Command) (db : Database) (params : Row) (e : Error) → RefusesToRead limit command db params e → IsCalm e
read_calm limit (Select q names) db params e h = query_calm limit db q params e h
read_calm limit (Rows values width names) db params e h = calm_as _ e h.0 apart
read_calm limit _ db params e h = calm_as _ e h apart

queried : (limit : Option ℕ) (db : Database) (q : Program) (params : Row) → Calm (Queried limit db q params)
queried limit db q params = record { stops = query_calm limit db q params }

sourced : (limit : Option ℕ) (db : Database) (params : Row) (from : Source) → Calm (Sourced limit db params from)
sourced limit db params from = record { stops = each from }
  where
    each : (from : Source) (e : Error) → RefusesSource limit db params from e → IsCalm e
    each (source.Values terms width) e (inl h) = calm_as _ e h.0 apart
    each (source.Values terms width) e (inr h) = calm_as _ e h.0 apart
    each (source.Query q) e h = query_calm limit db q params e h

tested : (mode : Mode) (Holds : Among → Type 0) → Calm (Tested mode Holds)
tested mode Holds = record { stops = λ e h. let s = h.1 in let k : e ≡ SqliteFailure (code.ConstraintViolation ForeignKey) = cc in calm_as _ e k apart }

module _ (task : Task) where
  open task use {limit, keys, schema, table, params}

  counter_in : (db : Trees) (o : Option Table) → Calm (CounterIn task db o)
  counter_in db None = refuses InvalidQuery apart
  counter_in db (Some counters) = gives _

  counter : (db : Trees) → Calm (Counter task db)
  counter db = either table.is_counted _ _ (counter_in db _) (gives _)

  counts_in : (db : Trees) (c : Option Row) (top : ℤ) (o : Option Table) → Calm (CountsIn task db c top o)
  counts_in db c top None = refuses InvalidQuery apart
  counts_in db c top (Some counters) = edited schema keys db (counting db table counters top c)

  counts : (db : Trees) (c : Option Row) (top : ℤ) → Calm (Counts task db c top)
  counts db c top = either _ _ _ (counts_in db c top _) (gives _)

  updates : (q : Program) (given : Row) (db : Trees) → Calm (Updates task q given db)
  updates q given db = in_turn _ _ (queried limit _ q given) (λ rows. in_turn _ _ (edited schema keys db _) (λ next. gives _))

  deletes : (q : Program) (db : Trees) → Calm (Deletes task q db)
  deletes q db = in_turn _ _ (queried limit _ q params) (λ rows. in_turn _ _ (edited schema keys db _) (λ next. gives _))

  inserts : (from : Source) (db : Trees) → Calm (Inserts task from db)
  inserts from db =
      in_turn _ _ (sourced limit _ _ from) (λ rows. in_turn _ _ (counter db) (λ c. in_turn _ _ (edited schema keys db _) (λ mid. in_turn _ _ (counts mid c _) (λ next. gives _))))

  puts : (new : Row) (db : Trees) → Calm (Puts task new db)
  puts new db = in_turn _ _ (edited schema keys db _) (λ next. gives _)

  clears : (way : Conflict) (new : Row) (db : Trees) (rows : List Row) → Calm (Clears task way new db rows)
  clears way new db [] = puts new db
  clears Abort new db (x ∷ more) = puts new db
  clears Ignore new db (x ∷ more) = gives _
  clears Replace new db (x ∷ more) = in_turn _ _ (edited schema keys db _) (λ next. puts new next)

  resolves : (new : Row) (db : Trees) (there : Row) (o : Option Program) → Calm (Resolves task new db there o)
  resolves new db there None = gives _
  resolves new db there (Some q) = updates q _ db

  meets : (P : Part Written) (new : Row) (db : Trees) (clause : Upsert) (rows : List Row) → Calm P → Calm (Meets task P new db clause rows)
  meets P new db clause [] p = p
  meets P new db clause (there ∷ more) p = resolves new db there clause.update

  upserts : (way : Conflict) (new : Row) (db : Trees) (clauses : List Upsert) → Calm (Upserts task way new db clauses)
  upserts way new db [] = record { stops = λ e h. (clears way new db h.0).stops e h.2 }
  upserts way new db (clause ∷ more) = let others = upserts way new db more in record { stops = λ e h. (meets (Upserts task way new db more) new db clause h.0 others).stops e h.2 }

  judged : (way : Conflict) (clauses : List Upsert) (new : Row) (db : Trees) (o : Option Refusal) → Calm (Judged task way clauses new db o)
  judged way clauses new db None = upserts way new db clauses
  judged way clauses new db (Some r) = either _ _ _ (gives _) (refuses (edit_error r) (edit_calm r))

  tries : (way : Conflict) (clauses : List Upsert) (new : Row) (db : Trees) → Calm (Tries task way clauses new db)
  tries way clauses new db = record { stops = each }
    where
      each : (e : Error) → Tries task way clauses new db (Err (Some e)) → IsCalm e
      each e (inl h) = let s = h.1 in let k : e ≡ SqliteFailure code.NoRowid = cc in calm_as _ e k apart
      each e (inr h) = (judged way clauses new db h.0).stops e h.2

  tries_each : (way : Conflict) (clauses : List Upsert) (rows : List Row) (top : ℤ) (done : Written) → Calm (TriesEach task way clauses rows top done)
  tries_each way clauses [] top done = gives _
  tries_each way clauses (row ∷ more) top done = in_turn _ _ (tries way clauses _ done.trees) (λ one. tries_each way clauses more _ _)

  inserts_or : (way : Conflict) (clauses : List Upsert) (from : Source) (db : Trees) → Calm (InsertsOr task way clauses from db)
  inserts_or way clauses from db =
      in_turn _ _ (sourced limit _ _ from)
      (λ rows. in_turn _ _ (counter db) (λ c. in_turn _ _ (tries_each way clauses rows _ _) (λ done. in_turn _ _ (counts done.0.trees c done.1) (λ next. gives _))))

  counted : (rows : List Row) → Calm (Counted limit rows)
  counted rows = record { stops = λ e h. let s = h.1 in let k : e ≡ SqliteFailure code.OperationInterrupted = cc in calm_as _ e k apart }

  shows : (what : Returning) (now : Trees) (rows : List Row) → Calm (Shows task what now rows)
  shows what now [] = gives _
  shows what now (row ∷ more) = in_turn _ _ (sourced limit _ _ what.row) (λ first. in_turn _ _ (shows what now more) (λ others. gives _))

  returns : (w : Written) (o : Option Returning) → Calm (Returns task w o)
  returns w None = gives _
  returns w (Some what) = in_turn _ _ (shows what w.trees w.rows) (λ rows. in_turn _ _ (counted rows) (λ _. gives _))

  concludes : (mode : Mode) (o : Option Returning) (w : Written) → Calm (Concludes task mode o w)
  concludes mode o w = in_turn _ _ (tested mode (λ among. Refers among schema w.trees)) (λ doubt. in_turn _ _ (returns w o) (λ rows. gives _))

  writes_rows : (db : Trees) (command : Command) → Calm (WritesRows task db command)
  writes_rows db (Insert at from) = inserts from db
  writes_rows db (InsertOr at way from clauses) = inserts_or way clauses from db
  writes_rows db (Update at q) = updates q params db
  writes_rows db (Delete at q) = deletes q db
  writes_rows db _ = refuses InvalidQuery apart

  on_rows : (mode : Mode) (o : Option Returning) (command : Command) (db : Trees) → Calm (OnRows task mode o command db)
  on_rows mode o command db = in_turn _ _ (writes_rows db command) (λ w. concludes mode o w)

  empties : (db : Trees) → Calm (Empties task db)
  empties db =
      let all = edit_of db table (ids_of (db table.tree)) Given 0 [] in either (is_acted_on schema keys table) (Edited schema keys db all) (Gives db) (edited schema keys db all) (gives db)

  uncounts_in : (db : Trees) (o : Option Table) → Calm (UncountsIn task db o)
  uncounts_in db None = gives _
  uncounts_in db (Some counters) = in_turn _ _ (counter db) (λ c. edited schema keys db (edit_of db counters (ids_of (option_to_list c)) Given 0 []))

  drops : (mode : Mode) (db : Trees) → Calm (Drops task mode db)
  drops mode db =
      in_turn _ _ (empties db) (λ emptied. in_turn _ _ (uncounts_in emptied _) (λ now. in_turn _ _ (tested mode (HoldWithout task now)) (λ doubt. in_turn (Leaves (without_table schema table.tree) now (λ _. ⊥)) _ (record { stops = λ e none. absurd none }) (λ after. gives _))))

-- ---- the schema

alter_calm : (r : alter.Refusal) → IsCalm (alter_error r)
alter_calm (why.Invalid e) = apart
alter_calm why.NameTaken = apart
alter_calm why.BadName = apart
alter_calm why.BadKey = apart
alter_calm why.BadText = apart
alter_calm why.TooBig = apart
alter_calm (why.Violates rule) = apart

altering : (P : alter.Refusal → Type 0) (e : Error) → RefusesToAlter P e → IsCalm e
altering P e h = calm_as (alter_error h.0) e h.2 (alter_calm h.0)

text_or : (text : List ℕ) (P : alter.Refusal → Type 0) (e : Error) → IsNoText text e ⊎ RefusesToAlter P e → IsCalm e
text_or text P e (inl h) = calm_as _ e h.1 apart
text_or text P e (inr h) = altering P e h

makes_table : (text : List ℕ) (db : Database) → Calm (MakesTable text db)
makes_table text db = record { stops = text_or text (RefusesTable db.schema text) }

makes_index : (text : List ℕ) (db : Database) (table : Table) → Calm (MakesIndex text db table)
makes_index text db table = record { stops = text_or text (RefusesIndex db.schema db.trees table text) }

makes_view : (text : List ℕ) (db : Database) → Calm (MakesView text db)
makes_view text db = record { stops = text_or text (RefusesView db.schema text) }

makes_sequence : (db : Database) → Calm (MakesSequence db)
makes_sequence db = either _ _ _ (makes_table _ db) (gives _)

defines : (mode : Mode) (P : Part Database) → Calm P → Calm (Defines mode P)
defines mode P p = in_turn _ _ p (λ after. gives _)

placed : {X A : Type 0} (P : X → Part A) (o : Option X) → ((x : X) → Calm (P x)) → Calm (AtPlace P o)
placed P None p = refuses InvalidQuery apart
placed P (Some x) p = p x

module _ (limit : Option ℕ) (mode : Mode) (params : Row) (db : Database) where
  abbrev on : Table → Task
  on table = record { limit = limit; keys = mode.keys; schema = db.schema; table = table; params = params }

  redefines : (text : List ℕ) (command : Command) → Calm (Redefines limit mode params db text command)
  redefines text CreateTable = defines mode _ (in_turn _ _ (makes_table text db) (λ after. makes_sequence after))
  redefines text (CreateIndex at) = placed _ (slice_get db.schema.tables at) (λ table. defines mode _ (makes_index text db table))
  redefines text CreateView = defines mode _ (makes_view text db)
  redefines text (DropTable at) = placed _ (slice_get db.schema.tables at) (λ table. drops (on table) mode db.trees)
  redefines text (DropIndex at) = placed _ (slice_get db.schema.indexes at) (λ index. defines mode (Leaves (without_index db.schema index.tree) db.trees (RefusesToAlter (RefusesToDropIndex index))) (record { stops = altering (RefusesToDropIndex index) }))
  redefines text (DropView at) = placed _ (slice_get db.schema.views at) (λ view. defines mode (Leaves (without_view db.schema view.tree) db.trees (IsKeptAside view)) (record { stops = λ e h. calm_as _ e h.1 apart }))
  redefines text _ = refuses InvalidQuery apart

  does : (text : List ℕ) (returning : Option Returning) (command : Command) → Calm (Does limit mode params db text returning command)
  does text returning (Insert at from) = placed _ (slice_get db.schema.tables at) (λ table. on_rows (on table) mode returning (Insert at from) db.trees)
  does text returning (InsertOr at way from clauses) = placed _ (slice_get db.schema.tables at) (λ table. on_rows (on table) mode returning (InsertOr at way from clauses) db.trees)
  does text returning (Update at q) = placed _ (slice_get db.schema.tables at) (λ table. on_rows (on table) mode returning (Update at q) db.trees)
  does text returning (Delete at q) = placed _ (slice_get db.schema.tables at) (λ table. on_rows (on table) mode returning (Delete at q) db.trees)
  does text returning command = either (is_some returning) _ _ (refuses InvalidQuery apart) (redefines text command)

  pub does_calm : (text : List ℕ) (returning : Option Returning) (command : Command) (e : Error) → Does limit mode params db text returning command (Err (Some e)) → IsCalm e
  does_calm text returning command = (does text returning command).stops
