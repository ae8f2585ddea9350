-- What the texts mean.
use Rattle.std.proofs.Common.{◌≡◌, ◌≤◌, ◌+◌, ℕ, zero, suc, List, [], ◌∷◌, ◌++◌, length, codes, None, Some, Result, Ok, Err, refl, ap, arith, lit≤, false, pos, negsuc}
use Rattle.sqlite.specs.Schema.{Schema}
use Rattle.sqlite.specs.declared.types.Value.{Value}
use Rattle.sqlite_resolve.specs.declared.compiled.Compiled.{Compiled}
use Rattle.sqlite_resolve.specs.declared.error.CompileError.{CompileError}
use Rattle.std.proofs.lemmas.Fmt.{decimal_digit}
use Rattle.sqlite.specs.Term.{Term}
use Rattle.sqlite.specs.Query.{Query}
use Rattle.sqlite.specs.declared.types.Value.TheVariants.{Null, Int}
use Rattle.sqlite.specs.Term.{lit, col, op2}
use Rattle.sqlite.specs.Query.{inner, end}
use Rattle.sqlite.specs.Source.TheVariants.{Values}
use Rattle.sqlite_schema.specs.declared.command.Upsert.{Upsert}
use Rattle.sqlite_schema.specs.declared.command.Conflict.TheVariants.{Abort}
use Rattle.sqlite.specs.Collation.TheVariants.{Binary}
use Rattle.sqlite_sql.specs.declared.ops.BinaryOp.TheVariants.{Compare}
use Rattle.sqlite_sql.specs.declared.ops.CompareOp.TheVariants.{Eq}
use Rattle.sqlite.specs.Command.TheVariants.{Insert, InsertOr, Update, Select, CreateTable, Nothing, Delete}
use Rattle.sqlite.specs.Compile.{table_defined_by}
use Rattle.sqlite_tied.specs.Compute.{everything}
use Rattle.sqlite.specs.Listing.{understood, reads_listing}
use Rattle.sqlite.proofs.Callers.{IsPlain, command_of, statement_of}
use Rattle.sql_store.specs.Results.{old_results, results, defined_results, old_schema, both_schema, listed_old, listed_both, key_index, no_schema}
pub use Rattle.sql_store.specs.Asked.{create_old_text, create_text, upsert_text, update_text, insert_text, insert_4_text, insert_16_text, delete_text, empty_text}
use Rattle.sql_store.specs.Load.{load_text, load_query, old_text, old_query, ids_text, ids_query, old_ids_text, old_ids_query}

abbrev pub probe_text : List ℕ
probe_text = codes "SELECT 1"

-- the text of the probe is one statement, without parameters and without the time
abbrev pub Fits : Result Compiled CompileError → Type 0
Fits (Ok c) = (length probe_text ≤ c.tail) × (length {A = Value} [] ≡ length c.names) × (c.formats ≡ [])
Fits (Err e) = ⊥

pub probe_fits : (schema : Schema) → Fits (understood schema probe_text)
unfolding understood everything
probe_fits schema = (lit≤ tt, refl, refl)

pub create_old_table : table_defined_by create_old_text ≡ Ok old_results
unfolding understood everything
create_old_table = refl

pub create_table : table_defined_by create_text ≡ Ok defined_results
unfolding understood everything
create_table = refl

pub create_old_is : command_of (understood no_schema create_old_text) ≡ CreateTable
unfolding understood everything
create_old_is = refl

pub create_is : command_of (understood old_schema create_text) ≡ CreateTable
unfolding understood everything
create_is = refl

pub create_old_again : command_of (understood old_schema create_old_text) ≡ Nothing
unfolding understood everything
create_old_again = refl

pub both_old_again : command_of (understood both_schema create_old_text) ≡ Nothing
unfolding understood everything
both_old_again = refl

pub both_again : command_of (understood both_schema create_text) ≡ Nothing
unfolding understood everything
both_again = refl

abbrev plain_query : ℕ → List Term → List Term → Query
plain_query tree filter project = record {
  from = inner tree end;
  filter = filter;
  group = None;
  project = project;
  distinct = false;
  collations = [];
  order = [];
  limit = lit (Int (negsuc 0));
  offset = lit (Int (pos 0));
}

-- the rowids of the rows with the key
abbrev pub delete_query : Query
delete_query = plain_query 2 (op2 (Compare Eq Binary) (col 1 1) (col 0 0) ∷ []) (col 1 0 ∷ [])

-- the rowids of all rows of the old table
abbrev pub empty_query : Query
empty_query = plain_query 0 [] (col 1 0 ∷ [])

-- so many rows of the parameters, which stand one row after another from a place on; their rowids are chosen
abbrev pub rows_terms : ℕ → ℕ → List Term
rows_terms from zero = []
rows_terms from (suc count) = lit Null ∷ col 0 from ∷ col 0 (from + 1) ∷ col 0 (from + 2) ∷ rows_terms (from + 3) count

-- The row that has the rowid of the one that was met, with the new value and number. The three parameters are followed
-- by that rowid and by the rowid, the key, the value and the number of the row that was to go in.
abbrev pub upsert_query : Query
upsert_query = plain_query 2 (op2 (Compare Eq Binary) (col 1 0) (col 0 3) ∷ []) (col 1 0 ∷ col 1 0 ∷ col 1 1 ∷ col 0 6 ∷ col 0 7 ∷ [])

abbrev pub upsert_clause : Upsert
upsert_clause = record { target = Some (1 ∷ []); update = Some (record { lets = []; body = upsert_query }) }

-- the rows of the key, each with its rowid in front, and with the new value and number
abbrev pub update_query : Query
update_query = plain_query 2 (op2 (Compare Eq Binary) (col 1 1) (col 0 0) ∷ []) (col 1 0 ∷ col 1 0 ∷ col 1 1 ∷ col 0 1 ∷ col 0 2 ∷ [])

pub delete_is : command_of (understood both_schema delete_text) ≡ Delete 1 (record { lets = []; body = delete_query })
unfolding understood everything
delete_is = refl

pub empty_is : command_of (understood both_schema empty_text) ≡ Delete 0 (record { lets = []; body = empty_query })
unfolding understood everything
empty_is = refl

pub upsert_is : command_of (understood both_schema upsert_text) ≡ InsertOr 1 Abort (Values (rows_terms 0 1) 4) (upsert_clause ∷ [])
unfolding understood everything
upsert_is = refl

pub update_is : command_of (understood both_schema update_text) ≡ Update 1 (record { lets = []; body = update_query })
unfolding understood everything
update_is = refl

pub insert_is : command_of (understood both_schema insert_text) ≡ Insert 1 (Values (rows_terms 0 1) 4)
unfolding understood everything
insert_is = refl

pub insert_4_is : command_of (understood both_schema insert_4_text) ≡ Insert 1 (Values (rows_terms 0 4) 4)
unfolding understood everything
insert_4_is = refl

pub insert_16_is : command_of (understood both_schema insert_16_text) ≡ Insert 1 (Values (rows_terms 0 16) 4)
unfolding understood everything
insert_16_is = refl

pub load_is : command_of (understood both_schema load_text) ≡ Select (record { lets = []; body = load_query }) (codes "k" ∷ codes "v" ∷ codes "n" ∷ [])
unfolding understood everything
load_is = refl

pub old_is : command_of (understood both_schema old_text) ≡ Select (record { lets = []; body = old_query }) (codes "k" ∷ codes "v" ∷ [])
unfolding understood everything
old_is = refl

pub ids_is : command_of (understood both_schema ids_text) ≡ Select (record { lets = []; body = ids_query }) (codes "rowid" ∷ [])
unfolding understood everything
ids_is = refl

pub old_ids_is : command_of (understood both_schema old_ids_text) ≡ Select (record { lets = []; body = old_ids_query }) (codes "rowid" ∷ [])
unfolding understood everything
old_ids_is = refl

pub create_old_plain : IsPlain (understood no_schema create_old_text) × (statement_of create_old_text (understood no_schema create_old_text) ≡ create_old_text)
unfolding understood everything
create_old_plain = ((refl, refl), refl)

pub create_plain : IsPlain (understood old_schema create_text) × (statement_of create_text (understood old_schema create_text) ≡ create_text)
unfolding understood everything
create_plain = ((refl, refl), refl)

pub create_old_again_plain : IsPlain (understood old_schema create_old_text)
unfolding understood everything
create_old_again_plain = (refl, refl)

pub both_old_again_plain : IsPlain (understood both_schema create_old_text)
unfolding understood everything
both_old_again_plain = (refl, refl)

pub both_again_plain : IsPlain (understood both_schema create_text)
unfolding understood everything
both_again_plain = (refl, refl)

pub delete_plain : IsPlain (understood both_schema delete_text)
unfolding understood everything
delete_plain = (refl, refl)

pub empty_plain : IsPlain (understood both_schema empty_text)
unfolding understood everything
empty_plain = (refl, refl)

pub upsert_plain : IsPlain (understood both_schema upsert_text)
unfolding understood everything
upsert_plain = (refl, refl)

pub update_plain : IsPlain (understood both_schema update_text)
unfolding understood everything
update_plain = (refl, refl)

pub insert_plain : IsPlain (understood both_schema insert_text)
unfolding understood everything
insert_plain = (refl, refl)

pub insert_4_plain : IsPlain (understood both_schema insert_4_text)
unfolding understood everything
insert_4_plain = (refl, refl)

pub insert_16_plain : IsPlain (understood both_schema insert_16_text)
unfolding understood everything
insert_16_plain = (refl, refl)

pub load_plain : IsPlain (understood both_schema load_text) × (reads_listing both_schema load_text ≡ false)
unfolding understood everything
load_plain = ((refl, refl), refl)

pub old_plain : IsPlain (understood both_schema old_text) × (reads_listing both_schema old_text ≡ false)
unfolding understood everything
old_plain = ((refl, refl), refl)

pub ids_plain : IsPlain (understood both_schema ids_text) × (reads_listing both_schema ids_text ≡ false)
unfolding understood everything
ids_plain = ((refl, refl), refl)

pub old_ids_plain : IsPlain (understood both_schema old_ids_text) × (reads_listing both_schema old_ids_text ≡ false)
unfolding understood everything
old_ids_plain = ((refl, refl), refl)

pub old_listed : old_schema ≡ listed_old
old_listed =
    ap (λ (digits : List ℕ). record { tables = old_results ∷ []; indexes = key_index (codes "sqlite_autoindex_" ++ (codes "results" ++ (codes "_" ++ digits))) 1 0 ∷ []; views = [] })
    (decimal_digit 1 (omega arith))

pub both_listed : both_schema ≡ listed_both
both_listed =
    ap (λ (digits : List ℕ). record {
      tables = old_results ∷ results ∷ [];
      indexes = key_index (codes "sqlite_autoindex_" ++ (codes "results" ++ (codes "_" ++ digits))) 1 0 ∷ key_index (codes "sqlite_autoindex_" ++ (codes "results2" ++ (codes "_" ++ digits))) 3 2 ∷ [];
      views = [];
    })
    (decimal_digit 1 (omega arith))
