-- What an upsert leaves.
use Rattle.std.proofs.Common.{◌≡◌, ◌≢◌, ◌&&◌, ◌||◌, ◌++◌, ℕ, ℤ, Bool, true, false, cond, List, [], ◌∷◌, map, filter, flat_map, Option, None, Some, Ok, if◌then◌else◌, inl, inr, sym, ap, subst, ◌∙◌, refl, is_eq, arith}
use Rattle.std.proofs.lemmas.Bool.{cases_Bool}
use Rattle.std.proofs.lemmas.List.Sorted.{IsPermutation-map}
use Rattle.std.specs.List.{list_all}
use Rattle.std.specs.List.Sorted.{IsPermutation}
use Rattle.sqlite.specs.declared.types.Value.{Value}
use Rattle.sqlite.specs.declared.types.Value.TheVariants.{Null, Int, Real, Text, Blob}
use Rattle.sqlite.specs.Order.{Row, column}
use Rattle.sqlite.specs.Command.TheVariants.{InsertOr}
use Rattle.sqlite.specs.Source.TheVariants.{Values}
use Rattle.sqlite.specs.Edit.{edit_of}
use Rattle.sqlite.specs.Rowids.TheVariants.{Given}
use Rattle.sqlite.specs.Query.{IsAnswer, output, Output}
use Rattle.sqlite.specs.Program.{overlay}
use Rattle.sqlite.specs.Collation.TheVariants.{Binary}
use Rattle.sqlite.specs.Does.{Tally, Does}
use Rattle.sqlite.specs.Effect.{Database}
use Rattle.sqlite.specs.Rows.{Written, Task, nothing, Tries, TriesEach, Upserts as Ups, Meets, Clears, Puts, Resolves}
use Rattle.sqlite.specs.Tree.{Trees}
use Rattle.sqlite.specs.Listing.{understood}
use Rattle.sqlite.specs.State.{State, mode_of, Executes, ExecutesInside}
use Rattle.sqlite.proofs.Callers.{statement_of, runs_as, one_step, one_permutation}
use Rattle.sqlite_sql.specs.Ops.{binary, is_true}
use Rattle.sqlite_sql.specs.Term.{holds, Env}
use Rattle.sqlite_sql.specs.declared.ops.BinaryOp.TheVariants.{Compare}
use Rattle.sqlite_sql.specs.declared.ops.CompareOp.TheVariants.{Eq}
use Rattle.sqlite_schema.specs.declared.command.Conflict.TheVariants.{Abort}
use Rattle.sqlite_schema.specs.declared.schema.Keys.TheVariants.{Enforced}
use Rattle.sqlite_schema.specs.Rules.{Fits, equal}
use Rattle.sqlite_value.specs.Order.{value_cmp}
use Rattle.sqlite_value.specs.Keys.{first_key}
use Rattle.sqlite_value.proofs.OrderLemmas.{value_cmp-apart}
use Rattle.sqlite_trees.specs.Tree.{has_rowid}
use Rattle.sqlite_rules.specs.Edit.{next_rowid, are_fresh, left_by, edited, put_all}
use Rattle.sqlite_rules.specs.Keys.{AreConflicts, conflicts}
use Rattle.sqlite_rules.specs.Calls.{ids_of}
use Rattle.sqlite_rules.specs.Lists.{Has}
use Rattle.sqlite_rules.proofs.ListLemmas.{all_has}
use Rattle.sql_store.specs.Laid.{put}
use Rattle.sql_store.specs.Results.{results, both_schema}
use Rattle.sql_store.specs.Table.{is_key, id_of, table_of, AreApart, IsReady, Makes}
use Rattle.sql_store.proofs.Texts.{upsert_text, upsert_is, upsert_plain, upsert_query, upsert_clause, rows_terms}
use Rattle.sql_store.proofs.Creates.{went, same_value}
use Rattle.sql_store.proofs.Deletes.{told, equal_key}
use Rattle.sql_store.proofs.Putting.{row_of, key_is, other_id, PutsIn, cast_new, new_is, added_in, changed_in}
use Rattle.sql_store.proofs.Steps.{makes_by}
use Rattle.sql_store.proofs.Tables.{own_id, has_own}

-- ---- what a row meets

alone : (b : Bool) → ((b && true) || false) ≡ b
alone true = refl
alone false = refl

-- it meets the rows of its key
meets : (id : ℤ) (key : List ℕ) (value number : ℤ) (r : Row) → conflicts (Some (1 ∷ [])) both_schema.indexes results (row_of id key value number) r ≡ is_key key (column r 1)
unfolding first_key
meets id key value number r = alone (equal Binary (column r 1) (Text key)) ∙ equal_key key (column r 1)

none_met : (id : ℤ) (key : List ℕ) (value number : ℤ) (rows : List Row) → AreConflicts (Some (1 ∷ [])) both_schema.indexes results rows (row_of id key value number) [] → (r : Row) → Has rows r → is_key key (column r 1) ≡ false
none_met id key value number rows a r has = elim (cases_Bool (is_key key (column r 1))) [
  | inl e ↦ absurd (a.complete r has (meets id key value number r ∙ e))
  | inr e ↦ e
]

-- ---- the row that is met gets the value

equal_id : (v : Value) (id : ℤ) → is_true (binary (Compare Eq Binary) v (Int id)) ≡ is_eq (value_cmp v (Int id))
unfolding binary
equal_id Null id = sym (ap is_eq (value_cmp-apart Null (Int id) (λ e. absurd cc)))
equal_id (Int n) id = told (is_eq (value_cmp (Int n) (Int id)))
equal_id (Real x) id = told (is_eq (value_cmp (Real x) (Int id)))
equal_id (Text t) id = told (is_eq (value_cmp (Text t) (Int id)))
equal_id (Blob b) id = told (is_eq (value_cmp (Blob b) (Int id)))

-- what the update is given
abbrev given : ℤ → Row → Row
given id new = column new 1 ∷ column new 2 ∷ column new 3 ∷ Int id ∷ new

abbrev shown_as : Row → Row → Row
shown_as new r = column r 0 ∷ column r 0 ∷ column r 1 ∷ column new 2 ∷ column new 3 ∷ []

shows : (id : ℤ) (new : Row) (rows : List Row)
    → map (λ (o : Output). o.1) (map (output upsert_query) (flat_map (λ r. if list_all (holds (given id new ∷ r ∷ [])) upsert_query.filter then (given id new ∷ r ∷ []) ∷ [] else []) rows)) ≡ map (shown_as new) (filter (has_rowid id) rows)
shows id new [] = refl
shows id new (r ∷ rows) = go (shows id new rows) (is_true (binary (Compare Eq Binary) (column r 0) (Int id))) (equal_id (column r 0) id)
  where
    all : List Row → List Env
    all = flat_map (λ r. if list_all (holds (given id new ∷ r ∷ [])) upsert_query.filter then (given id new ∷ r ∷ []) ∷ [] else [])

    go : map (λ (o : Output). o.1) (map (output upsert_query) (all rows)) ≡ map (shown_as new) (filter (has_rowid id) rows) → (b : Bool) → b ≡ has_rowid id r
        → map (λ (o : Output). o.1) (map (output upsert_query) (cond (b && true) ((given id new ∷ r ∷ []) ∷ []) [] ++ all rows)) ≡ map (shown_as new) (cond (has_rowid id r) (r ∷ filter (has_rowid id) rows) (filter (has_rowid id) rows))
    go more true e = rw (← e, more)
    go more false e = rw (← e, more)

no_row : (id : ℤ) (rows : List Row) → ((r : Row) → Has rows r → has_rowid id r ≡ false) → filter (has_rowid id) rows ≡ []
no_row id [] none = refl
no_row id (r ∷ rows) none = rw (none r (inl refl)) (no_row id rows (λ q has. none q (inr has)))

-- one row has the rowid
one_row : (rows : List Row) (r : Row) → AreApart rows → Has rows r → filter (has_rowid (id_of r)) rows ≡ r ∷ []
one_row [] r h has = absurd has
one_row (x ∷ rows) r h (inl e) =
    let none = λ (q : Row) (has : Has rows q). other_id q (id_of x) (own_id rows q h.2 has) (all_has (λ y. id_of y ≢ id_of x) rows q h.1 has) in
    subst (λ (y : Row). filter (has_rowid (id_of y)) (x ∷ rows) ≡ y ∷ []) (sym e) (rw (has_own x h.0, no_row (id_of x) rows none))
one_row (x ∷ rows) r h (inr has) = rw (other_id x (id_of r) h.0 (λ e. all_has (λ y. id_of y ≢ id_of x) rows r h.1 has (sym e))) (one_row rows r h.2 has)

-- ---- the statement

module _ (limit : Option ℕ) (key : List ℕ) (value number : ℤ) (db : Trees) (apart : AreApart (db 2)) where
  abbrev task : Task
  task = record { limit = limit; keys = Enforced; schema = both_schema; table = results; params = Text key ∷ Int value ∷ Int number ∷ [] }

  abbrev new : Row
  new = row_of (next_rowid (db 2)) key value number

  -- no row is met
  added : (one : Written) → ((r : Row) → Has (db 2) r → is_key key (column r 1) ≡ false) → Puts task new db (Ok one) → PutsIn key value number db one.trees
  added one none h =
      let put_it = went h in
      let edit = edit_of db results [] Given 0 (new ∷ []) in
      let step = one_step both_schema Enforced db put_it.0 edit refl put_it.1 in
      let news : edit.news ≡ new ∷ [] = ap (λ (r : Row). r ∷ []) (cast_new key value number db apart (next_rowid (db 2))) in
      let trees : one.trees ≡ put_it.0 = ap (λ (w : Written). w.trees) (same_value put_it.2) in
      added_in key value number db apart (next_rowid (db 2)) one.trees (ap (λ (t : Trees). t 0) trees ∙ step.tables.0 (λ e. absurd (omega (arith, e))))
      (ap (λ (t : Trees). t 2) trees ∙ step.rows ∙ ap (put_all (db 2)) news) (subst (λ all. are_fresh (db 2) all ≡ true) news step.fresh) none

  -- a row is met
  updated : (r : Row) (one : Written) → Has (db 2) r → is_key key (column r 1) ≡ true → Resolves task new db (column r 0 ∷ []) upsert_clause.update (Ok one) → PutsIn key value number db one.trees
  updated r one has is h =
      let own = own_id (db 2) r apart has in
      let key_r = key_is key (column r 1) is in
      let id : ℤ = id_of r in
      let queried = went (rw own at h) in
      let wrote = went queried.2 in
      let a : IsAnswer upsert_query (overlay db []) (given id new) queried.0 = queried.1.answer Null in
      let kept : map (λ (o : Output). o.1) a.kept ≡ shown_as new r ∷ [] =
      ap (map (λ (o : Output). o.1)) (a.distinct ∙ ap (map (output upsert_query)) a.grouped) ∙ shows id new (db 2) ∙ ap (map (shown_as new)) (one_row (db 2) r apart has) in
      let same : IsPermutation (shown_as new r ∷ []) queried.0 =
      subst (λ rows. IsPermutation rows queried.0) kept (subst (IsPermutation (map (λ (o : Output). o.1) a.kept)) (sym a.shown) (IsPermutation-map (λ (o : Output). o.1) a.kept a.ordered a.same)) in
      let rows : queried.0 ≡ (Int id ∷ row_of id key value number) ∷ [] = one_permutation _ queried.0 same ∙ rw (own, key_r) in
      let edit = edit_of db results (ids_of queried.0) Given 1 queried.0 in
      let step = one_step both_schema Enforced db wrote.0 edit refl wrote.1 in
      let made : edit ≡ record { table = results; gone = id ∷ []; news = row_of id key value number ∷ [] } = ap (λ all. edit_of db results (ids_of all) Given 1 all) rows ∙ rw (cast_new key value number db apart id) in
      let trees : one.trees ≡ wrote.0 = ap (λ (w : Written). w.trees) (same_value wrote.2) in
      changed_in key value number db apart r one.trees has is (ap (λ (t : Trees). t 0) trees ∙ step.tables.0 (λ e. absurd (omega (arith, e)))) (ap (λ (t : Trees). t 2) trees ∙ step.rows ∙ ap (edited db) made) (subst (Fits both_schema) (sym trees) step.fits) (ap (λ e. are_fresh (left_by db e) e.news) (sym made) ∙ step.fresh)

  tried : (rows : List Row) (top : ℤ) (out : Written × ℤ) → rows ≡ (Null ∷ Text key ∷ Int value ∷ Int number ∷ []) ∷ [] → TriesEach task Abort (upsert_clause ∷ []) rows top (nothing db) (Ok out)
      → PutsIn key value number db out.0.trees
  tried rows top out is h =
      let one = went (subst (λ all. TriesEach task Abort (upsert_clause ∷ []) all top (nothing db) (Ok out)) is h) in
      subst (PutsIn key value number db) (sym (ap (λ (p : Written × ℤ). p.0.trees) (same_value one.2))) (judged one.0 (subst (λ (r : Row). Tries task Abort (upsert_clause ∷ []) r db (Ok one.0)) (new_is key value number db apart) one.1))
    where
      put_there : (one : Written) (found : List Row) → Clears task Abort new db found (Ok one) → Puts task new db (Ok one)
      put_there one [] h = h
      put_there one (x ∷ more) h = h

      met : (one : Written) (found : List Row) → AreConflicts (Some (1 ∷ [])) both_schema.indexes results (db 2) new found → Meets task (Ups task Abort new db []) new db upsert_clause found (Ok one) → PutsIn key value number db one.trees
      met one [] a h = added one (none_met (next_rowid (db 2)) key value number (db 2) a) (put_there one h.0 h.2)
      met one (there ∷ more) a h =
          let it = a.sound there (inl refl) in
          updated it.0 one it.1 (sym (meets (next_rowid (db 2)) key value number it.0) ∙ it.2) (subst (λ x. Resolves task new db x upsert_clause.update (Ok one)) it.3 h)

      judged : (one : Written) → Tries task Abort (upsert_clause ∷ []) new db (Ok one) → PutsIn key value number db one.trees
      judged one (inl out) = absurd (let e = out.1 in cc)
      judged one (inr (None, fits, h)) = met one h.0 h.1 h.2
      judged one (inr (Some why, fits, h)) = absurd (let e = h in cc)

pub puts_in : (old new : State) (key : List ℕ) (value number : ℤ) (count : ℕ) → IsReady old.now → Executes upsert_text (Text key ∷ Int value ∷ Int number ∷ []) old new (Ok count)
    → IsReady new.now × (table_of new.now ≡ put (table_of old.now) key (Some (value, number))) × (new.now.trees 0 ≡ old.now.trees 0)
puts_in old new key value number count ready h =
    let params : Row = Text key ∷ Int value ∷ Int number ∷ [] in
    let db : Trees = old.now.trees in
    let command = InsertOr 1 Abort (Values (rows_terms 0 1) 4) (upsert_clause ∷ []) in
    let w = runs_as upsert_text params old new both_schema ready.schema command upsert_is upsert_plain count h in
    let text = statement_of upsert_text (understood both_schema upsert_text) in
    let done = went (subst (λ s. Does old.step_limit (mode_of old) params (record old.now { schema = s }) text None command (Ok (w.tally, new.now))) ready.schema w.changed) in
    let now = ap (λ (p : Tally × Database). p.1) (same_value (went (went done.2).2).2) in
    let given = went done.1 in
    let each = went (went given.2).2 in
    let counted = went each.2 in
    let trees : done.0.trees ≡ each.0.0.trees = ap (λ (it : Written). it.trees) (same_value counted.2) ∙ same_value counted.1 in
    let it : PutsIn key value number db new.now.trees = subst (PutsIn key value number db) (sym (ap (λ (d : Database). d.trees) now ∙ trees)) (tried old.step_limit key value number db ready.apart given.0 _ each.0 given.1.1 each.1) in
    (record { schema = ap (λ (d : Database). d.schema) now; apart = it.apart }, it.table, it.others)

pub enters : (old new : State) (key : List ℕ) (value number : ℤ) (count : ℕ) → ExecutesInside 0 upsert_text (Text key ∷ Int value ∷ Int number ∷ []) old new (Ok count) → Makes key (Some (value, number)) old new
enters old new key value number count h = makes_by upsert_text _ old new key _ count h (λ ready. puts_in old new key value number count ready h.0)
