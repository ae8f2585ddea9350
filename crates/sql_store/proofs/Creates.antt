-- What the statements make that make the tables.
use Rattle.std.proofs.Common.{◌≡◌, ◌⊎◌, inl, inr, ℕ, List, [], false, None, Ok, Err, Result, refl, sym, ap, subst, ◌∙◌}
use Rattle.sqlite.specs.Command.TheVariants.{CreateTable, Nothing}
use Rattle.sqlite.specs.Change.{created, next_tree, KeepsRows}
use Rattle.sqlite.specs.Compile.{table_defined_by}
use Rattle.sqlite.specs.Does.{Tally, lacks_sequence}
use Rattle.sqlite.specs.Effect.{Database}
use Rattle.sqlite.specs.Listing.{understood}
use Rattle.sqlite.specs.Schema.{Schema}
use Rattle.sqlite.specs.Table.{Table}
use Rattle.sqlite.specs.State.{State, Writes, Executes, IsUnchanged}
use Rattle.sqlite.proofs.Callers.{IsPlain, command_of, statement_of, runs_as}
use Rattle.sql_store.specs.Results.{old_results, defined_results, no_schema, old_schema, both_schema}
use Rattle.sql_store.proofs.Texts.{create_old_text, create_text, create_old_table, create_table, create_old_is, create_is, create_old_plain, create_plain, create_old_again, create_old_again_plain, both_old_again, both_old_again_plain, both_again, both_again_plain}

-- a part that gave a value did not stop on the way
pub went : {B E R : Type 0} {b : B} {Stops : E → Type 0} → ((stop : E) × Stops stop × (Ok b ≡ Err stop)) ⊎ R → R
went (inl stopped) = absurd (let e = stopped.2 in cc)
went (inr on) = on

pub same_value : {B E : Type 0} {a b : B} → ◌≡◌ {A = Result B E} (Ok a) (Ok b) → a ≡ b
same_value e = cc

pub record Created (schema : Schema) (table : Table) (old new : Database) : Type 0 where
  pub schema_is : new.schema ≡ created schema table
  pub empty : new.trees (next_tree schema) ≡ []
  pub others : KeepsRows schema.tables old.trees new.trees

creates : (text : List ℕ) (schema : Schema) (table : Table) → table_defined_by text ≡ Ok table → command_of (understood schema text) ≡ CreateTable → IsPlain (understood schema text)
    → statement_of text (understood schema text) ≡ text → lacks_sequence (created schema table) ≡ false
    → (old new : State) (count : ℕ) → old.now.schema ≡ schema → Executes text [] old new (Ok count) → Created schema table old.now new.now
creates text schema table defined is plain whole bare old new count has h =
    let w = subst (λ t. Writes old new None CreateTable t [] count) whole (runs_as text [] old new schema has CreateTable is plain count h) in
    let all = went w.changed in
    let first = went all.1 in
    let made = first.1 in
    let both : Ok made.table ≡ Ok table = sym made.defined ∙ defined in
    let same : made.table ≡ table = cc in
    let after : first.0.schema ≡ created schema table = made.is ∙ ap (λ s. created s made.table) has ∙ ap (created schema) same in
    let none : lacks_sequence first.0.schema ≡ false = ap lacks_sequence after ∙ bare in
    let now : new.now ≡ first.0 = ap (λ (p : Tally × Database). p.1) (same_value all.2) ∙ same_value (rw none at first.2) in
    record {
      schema_is = ap (λ (d : Database). d.schema) now ∙ after;
      empty = ap (λ (d : Database). d.trees (next_tree schema)) now ∙ subst (λ s. first.0.trees (next_tree s) ≡ []) has made.empty;
      others = subst (λ (d : Database). KeepsRows schema.tables old.now.trees d.trees) (sym now) (subst (λ (s : Schema). KeepsRows s.tables old.now.trees first.0.trees) has made.others);
    }

-- in an empty database
pub makes_old : (old new : State) (count : ℕ) → old.now.schema ≡ no_schema → Executes create_old_text [] old new (Ok count) → (new.now.schema ≡ old_schema) × (new.now.trees 0 ≡ [])
makes_old old new count has h =
    let it = creates create_old_text no_schema old_results create_old_table create_old_is create_old_plain.0 create_old_plain.1 refl old new count has h in
    (it.schema_is, it.empty)

-- in a database of the old table alone
pub makes_new : (old new : State) (count : ℕ) → old.now.schema ≡ old_schema → Executes create_text [] old new (Ok count)
    → (new.now.schema ≡ both_schema) × (new.now.trees 2 ≡ []) × (new.now.trees 0 ≡ old.now.trees 0)
makes_new old new count has h =
    let it = creates create_text old_schema defined_results create_table create_is create_plain.0 create_plain.1 refl old new count has h in
    (it.schema_is, it.empty, it.others.0)

-- where the table is there
again : (text : List ℕ) (schema : Schema) → command_of (understood schema text) ≡ Nothing → IsPlain (understood schema text)
    → (old new : State) (count : ℕ) → old.now.schema ≡ schema → Executes text [] old new (Ok count) → IsUnchanged old new
again text schema is plain old new count has h = (runs_as text [] old new schema has Nothing is plain count h).0

pub old_again : (old new : State) (count : ℕ) → old.now.schema ≡ old_schema → Executes create_old_text [] old new (Ok count) → IsUnchanged old new
old_again = again create_old_text old_schema create_old_again create_old_again_plain

pub old_beside : (old new : State) (count : ℕ) → old.now.schema ≡ both_schema → Executes create_old_text [] old new (Ok count) → IsUnchanged old new
old_beside = again create_old_text both_schema both_old_again both_old_again_plain

pub new_again : (old new : State) (count : ℕ) → old.now.schema ≡ both_schema → Executes create_text [] old new (Ok count) → IsUnchanged old new
new_again = again create_text both_schema both_again both_again_plain
