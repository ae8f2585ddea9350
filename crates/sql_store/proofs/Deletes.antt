-- What a delete by key leaves.
use Rattle.std.proofs.Common.{◌≡◌, ◌&&◌, if◌then◌else◌, ℕ, Bool, true, false, cond, List, [], ◌∷◌, ◌++◌, map, flat_map, None, Some, Ok, sym, ap, subst, ◌∙◌, refl, is_eq, arith}
use Rattle.std.specs.List.Sorted.{IsPermutation}
use Rattle.std.proofs.lemmas.List.Sorted.{IsPermutation-map}
use Rattle.std.specs.List.{list_all}
use Rattle.sqlite.specs.declared.types.Value.{Value}
use Rattle.sqlite.specs.declared.types.Value.TheVariants.{Null, Int, Real, Text, Blob}
use Rattle.sqlite.specs.Order.{Row, column}
use Rattle.sqlite.specs.Command.TheVariants.{Delete}
use Rattle.sqlite.specs.Query.{IsAnswer, output, Output}
use Rattle.sqlite.specs.Program.{overlay}
use Rattle.sqlite.specs.Collation.TheVariants.{Binary}
use Rattle.sqlite.specs.Edit.{edit_of}
use Rattle.sqlite.specs.Rowids.TheVariants.{Given}
use Rattle.sqlite.specs.Does.{Tally, Does}
use Rattle.sqlite.specs.Effect.{Database}
use Rattle.sqlite.specs.Rows.{Written}
use Rattle.sqlite.specs.Tree.{Trees}
use Rattle.sqlite.specs.Listing.{understood}
use Rattle.sqlite.specs.State.{State, mode_of, Executes, ExecutesInside}
use Rattle.sqlite.proofs.Callers.{statement_of, runs_as, one_step}
use Rattle.sqlite_sql.specs.Ops.{binary, is_true, from_truth}
use Rattle.sqlite_sql.specs.Term.{holds, Env}
use Rattle.sqlite_sql.specs.declared.ops.BinaryOp.TheVariants.{Compare}
use Rattle.sqlite_sql.specs.declared.ops.CompareOp.TheVariants.{Eq}
use Rattle.sqlite_value.specs.Order.{value_cmp}
use Rattle.sqlite_rules.specs.Calls.{ids_of}
use Rattle.sql_store.specs.Laid.{put}
use Rattle.sql_store.specs.Results.{old_results, results, both_schema}
use Rattle.sql_store.specs.Table.{is_key, map_of, table_of, AreApart, IsReady, Makes}
use Rattle.sql_store.proofs.Texts.{delete_text, delete_is, delete_plain, delete_query, empty_text, empty_is, empty_plain, empty_query}
use Rattle.sql_store.proofs.Creates.{went, same_value}
use Rattle.sql_store.proofs.Steps.{makes_by}
use Rattle.sql_store.proofs.Tables.{key_test, rows_with, rows_without, shown_ids, removed, all_removed, apart_kept, map_removed}

pub told : (b : Bool) → is_true (from_truth (Some b)) ≡ b
told true = refl
told false = refl

-- WHERE keeps the rows of the key
pub equal_key : (k : List ℕ) (v : Value) → is_true (binary (Compare Eq Binary) v (Text k)) ≡ is_key k v
unfolding binary
equal_key k Null = refl
equal_key k (Int n) = told (is_eq (value_cmp (Int n) (Text k))) ∙ key_test k (Int n)
equal_key k (Real x) = told (is_eq (value_cmp (Real x) (Text k))) ∙ key_test k (Real x)
equal_key k (Text t) = told (is_eq (value_cmp (Text t) (Text k))) ∙ key_test k (Text t)
equal_key k (Blob b) = told (is_eq (value_cmp (Blob b) (Text k))) ∙ key_test k (Blob b)

abbrev kept_as : List ℕ → Row → List Env
kept_as k r = if list_all (holds ((Text k ∷ []) ∷ r ∷ [])) delete_query.filter then ((Text k ∷ []) ∷ r ∷ []) ∷ [] else []

shows : (k : List ℕ) (rows : List Row) → map (λ (o : Output). o.1) (map (output delete_query) (flat_map (kept_as k) rows)) ≡ shown_ids (rows_with k rows)
shows k [] = refl
shows k (r ∷ rows) = go (shows k rows) (is_true (binary (Compare Eq Binary) (column r 1) (Text k))) (equal_key k (column r 1))
  where
    go : map (λ (o : Output). o.1) (map (output delete_query) (flat_map (kept_as k) rows)) ≡ shown_ids (rows_with k rows) → (b : Bool) → b ≡ is_key k (column r 1)
        → map (λ (o : Output). o.1) (map (output delete_query) (cond (b && true) (((Text k ∷ []) ∷ r ∷ []) ∷ []) [] ++ flat_map (kept_as k) rows)) ≡ shown_ids (cond (is_key k (column r 1)) (r ∷ rows_with k rows) (rows_with k rows))
    go more true e = rw (← e, more)
    go more false e = rw (← e, more)

pub record Deletes (key : List ℕ) (old new : Database) : Type 0 where
  pub others : new.trees 0 ≡ old.trees 0
  pub rows : AreApart (old.trees 2) → new.trees 2 ≡ rows_without key (old.trees 2)
  pub schema : new.schema ≡ both_schema

pub deletes : (old new : State) (key : List ℕ) (count : ℕ) → old.now.schema ≡ both_schema → Executes delete_text (Text key ∷ []) old new (Ok count) → Deletes key old.now new.now
deletes old new key count has h =
    let params : Row = Text key ∷ [] in
    let db : Trees = old.now.trees in
    let command = Delete 1 (record { lets = []; body = delete_query }) in
    let w = runs_as delete_text params old new both_schema has command delete_is delete_plain count h in
    let text = statement_of delete_text (understood both_schema delete_text) in
    let done = went (subst (λ s. Does old.step_limit (mode_of old) params (record old.now { schema = s }) text None command (Ok (w.tally, new.now))) has w.changed) in
    let queried = went done.1 in
    let wrote = went queried.2 in
    let now = ap (λ (p : Tally × Database). p.1) (same_value (went (went done.2).2).2) in
    let trees : done.0.trees ≡ wrote.0 = ap (λ (it : Written). it.trees) (same_value wrote.2) in
    let step = one_step both_schema _ db wrote.0 (edit_of db results (ids_of queried.0) Given 0 []) refl wrote.1 in
    let a : IsAnswer delete_query (overlay db []) params queried.0 = queried.1.answer Null in
    let kept : map (λ (o : Output). o.1) a.kept ≡ shown_ids (rows_with key (db 2)) =
    ap (map (λ (o : Output). o.1)) (a.distinct ∙ ap (map (output delete_query)) a.grouped) ∙ shows key (db 2) in
    let same : IsPermutation (shown_ids (rows_with key (db 2))) queried.0 =
    subst (λ rows. IsPermutation rows queried.0) kept (subst (IsPermutation (map (λ (o : Output). o.1) a.kept)) (sym a.shown) (IsPermutation-map (λ (o : Output). o.1) a.kept a.ordered a.same)) in
    record {
      others = ap (λ (d : Database). d.trees 0) now ∙ ap (λ (t : Trees). t 0) trees ∙ step.tables.0 (λ e. absurd (omega (arith, e)));
      rows = λ apart. ap (λ (d : Database). d.trees 2) now ∙ ap (λ (t : Trees). t 2) trees ∙ step.rows ∙ removed key (db 2) queried.0 apart same;
      schema = ap (λ (d : Database). d.schema) now;
    }

deleted : (old new : Database) (key : List ℕ) → IsReady old → Deletes key old new → IsReady new × (table_of new ≡ put (table_of old) key None) × (new.trees 0 ≡ old.trees 0)
deleted old new key ready it =
    let rows = it.rows ready.apart in
    (record { schema = it.schema; apart = subst AreApart (sym rows) (apart_kept _ (old.trees 2) ready.apart) }, ap map_of rows ∙ map_removed key (old.trees 2), it.others)

pub removes : (old new : State) (key : List ℕ) (count : ℕ) → ExecutesInside 0 delete_text (Text key ∷ []) old new (Ok count) → Makes key None old new
removes old new key count h = makes_by delete_text _ old new key _ count h (λ ready. deleted old.now new.now key ready (deletes old new key count ready.schema h.0))

-- ---- all rows of the old table go

shows_all : (rows : List Row) → map (λ (o : Output). o.1) (map (output empty_query) (flat_map (λ r. ([] ∷ r ∷ []) ∷ []) rows)) ≡ shown_ids rows
shows_all [] = refl
shows_all (r ∷ rows) = ap (λ rs. (column r 0 ∷ []) ∷ rs) (shows_all rows)

pub record Empties (old new : Database) : Type 0 where
  pub others : new.trees 2 ≡ old.trees 2
  pub rows : AreApart (old.trees 0) → new.trees 0 ≡ []
  pub schema : new.schema ≡ both_schema

pub empties : (old new : State) (count : ℕ) → old.now.schema ≡ both_schema → Executes empty_text [] old new (Ok count) → Empties old.now new.now
empties old new count has h =
    let db : Trees = old.now.trees in
    let command = Delete 0 (record { lets = []; body = empty_query }) in
    let w = runs_as empty_text [] old new both_schema has command empty_is empty_plain count h in
    let text = statement_of empty_text (understood both_schema empty_text) in
    let done = went (subst (λ s. Does old.step_limit (mode_of old) [] (record old.now { schema = s }) text None command (Ok (w.tally, new.now))) has w.changed) in
    let queried = went done.1 in
    let wrote = went queried.2 in
    let now = ap (λ (p : Tally × Database). p.1) (same_value (went (went done.2).2).2) in
    let trees : done.0.trees ≡ wrote.0 = ap (λ (it : Written). it.trees) (same_value wrote.2) in
    let step = one_step both_schema _ db wrote.0 (edit_of db old_results (ids_of queried.0) Given 0 []) refl wrote.1 in
    let a : IsAnswer empty_query (overlay db []) [] queried.0 = queried.1.answer Null in
    let kept : map (λ (o : Output). o.1) a.kept ≡ shown_ids (db 0) =
    ap (map (λ (o : Output). o.1)) (a.distinct ∙ ap (map (output empty_query)) a.grouped) ∙ shows_all (db 0) in
    let same : IsPermutation (shown_ids (db 0)) queried.0 =
    subst (λ rows. IsPermutation rows queried.0) kept (subst (IsPermutation (map (λ (o : Output). o.1) a.kept)) (sym a.shown) (IsPermutation-map (λ (o : Output). o.1) a.kept a.ordered a.same)) in
    record {
      others = ap (λ (d : Database). d.trees 2) now ∙ ap (λ (t : Trees). t 2) trees ∙ step.tables.1.0 (λ e. absurd (omega (arith, e)));
      rows = λ apart. ap (λ (d : Database). d.trees 0) now ∙ ap (λ (t : Trees). t 0) trees ∙ step.rows ∙ all_removed (db 0) queried.0 apart same;
      schema = ap (λ (d : Database). d.schema) now;
    }
