-- What an update by key leaves.
use Rattle.std.proofs.Common.{◌≡◌, ◌<◌, ◌&&◌, ◌++◌, ℕ, ℤ, Bool, true, false, cond, List, [], ◌∷◌, length, map, flat_map, drop, None, Some, Ok, if◌then◌else◌, inl, inr, sym, ap, subst, ◌∙◌, refl, is_eq, true≢false, arith}
use Rattle.std.specs.Prelude.{unwrap_or}
use Rattle.std.specs.List.{list_all}
use Rattle.std.specs.List.Sorted.{IsPermutation}
use Rattle.std.proofs.lemmas.Bool.{and_parts}
use Rattle.std.proofs.lemmas.Cmp.{tied_itself}
use Rattle.std.proofs.lemmas.List.Sorted.{IsPermutation-map, IsPermutation-sym}
use Rattle.sqlite.specs.declared.types.Value.TheVariants.{Null, Int, Text}
use Rattle.sqlite.specs.Order.{Row, column}
use Rattle.sqlite.specs.Command.TheVariants.{Update}
use Rattle.sqlite.specs.Query.{IsAnswer, output, Output}
use Rattle.sqlite.specs.Program.{overlay}
use Rattle.sqlite.specs.Collation.TheVariants.{Binary}
use Rattle.sqlite.specs.Cast.{cast_row}
use Rattle.sqlite.specs.Edit.{Edit, edit_of}
use Rattle.sqlite.specs.Rowids.TheVariants.{Given}
use Rattle.sqlite.specs.Does.{Tally, Does}
use Rattle.sqlite.specs.Effect.{Database}
use Rattle.sqlite.specs.Rows.{Written}
use Rattle.sqlite.specs.Tree.{Trees}
use Rattle.sqlite.specs.Listing.{understood}
use Rattle.sqlite.specs.State.{State, mode_of, Executes, ExecutesInside}
use Rattle.sqlite.proofs.Callers.{statement_of, runs_as, one_step}
use Rattle.sqlite_sql.specs.Ops.{binary, is_true}
use Rattle.sqlite_sql.specs.Term.{holds, Env}
use Rattle.sqlite_sql.specs.declared.ops.BinaryOp.TheVariants.{Compare}
use Rattle.sqlite_sql.specs.declared.ops.CompareOp.TheVariants.{Eq}
use Rattle.sqlite_schema.specs.declared.schema.Keys.TheVariants.{Enforced}
use Rattle.sqlite_value.specs.Order.{value_cmp}
use Rattle.sqlite_value.proofs.OrderLemmas.{value_cmp_total}
use Rattle.sqlite_trees.specs.Tree.{rowid, put_row}
use Rattle.sqlite_rules.specs.Edit.{are_fresh, edited, left_by, Applies}
use Rattle.sqlite_rules.specs.Calls.{ids_of}
use Rattle.sqlite_rules.specs.Lists.{Has}
use Rattle.sqlite_rules.proofs.ListLemmas.{has_filtered}
use Rattle.sqlite_rules.proofs.TableLemmas.{has_put, put_all_adds}
use Rattle.sql_store.specs.Laid.{put}
use Rattle.sql_store.specs.Results.{results, both_schema}
use Rattle.sql_store.specs.Table.{is_key, id_of, table_of, AreApart, IsReady, Makes}
use Rattle.sql_store.proofs.Texts.{update_text, update_is, update_plain, update_query}
use Rattle.sql_store.proofs.Creates.{went, same_value}
use Rattle.sql_store.proofs.Deletes.{equal_key}
use Rattle.sql_store.proofs.Putting.{row_of, key_is, same_key, denied, untaken, PutsIn, cast_new, changed_in}
use Rattle.sql_store.proofs.Steps.{makes_by}
use Rattle.sql_store.proofs.Tables.{own_id, has_permuted, has_mapped, rows_with}

module _ (key : List ℕ) (value number : ℤ) where
  abbrev params : Row
  params = Text key ∷ Int value ∷ Int number ∷ []

  -- what the query shows of a row
  abbrev shown_as : Row → Row
  shown_as r = column r 0 ∷ column r 0 ∷ column r 1 ∷ Int value ∷ Int number ∷ []

  abbrev kept_as : Row → List Env
  kept_as r = if list_all (holds (params ∷ r ∷ [])) update_query.filter then (params ∷ r ∷ []) ∷ [] else []

  shows : (rows : List Row) → map (λ (o : Output). o.1) (map (output update_query) (flat_map kept_as rows)) ≡ map shown_as (rows_with key rows)
  shows [] = refl
  shows (r ∷ rows) = go (shows rows) (is_true (binary (Compare Eq Binary) (column r 1) (Text key))) (equal_key key (column r 1))
    where
      go : map (λ (o : Output). o.1) (map (output update_query) (flat_map kept_as rows)) ≡ map shown_as (rows_with key rows) → (b : Bool) → b ≡ is_key key (column r 1)
          → map (λ (o : Output). o.1) (map (output update_query) (cond (b && true) ((params ∷ r ∷ []) ∷ []) [] ++ flat_map kept_as rows)) ≡ map shown_as (cond (is_key key (column r 1)) (r ∷ rows_with key rows) (rows_with key rows))
      go more true e = rw (← e, more)
      go more false e = rw (← e, more)

module _ (key : List ℕ) (value number : ℤ) (db : Trees) (apart : AreApart (db 2)) where
  abbrev pub edit_by : List Row → Edit
  edit_by rows = edit_of db results (ids_of rows) Given 1 rows

  -- the query showed the rows of the key
  abbrev pub IsShown : List Row → Type 0
  IsShown rows = IsPermutation (map (shown_as key value number) (rows_with key (db 2))) rows

  -- a row that was shown is the new one of a row of the key
  from : (rows : List Row) (x : Row) → IsShown rows → Has rows x → (r : Row) × Has (db 2) r × (is_key key (column r 1) ≡ true) × (x ≡ Int (id_of r) ∷ row_of (id_of r) key value number)
  from rows x same has =
      let shown = has_mapped (shown_as key value number) (rows_with key (db 2)) x (has_permuted rows _ x (IsPermutation-sym _ rows same) has) in
      let r : Row = shown.0 in
      let kept = has_filtered (λ (q : Row). is_key key (column q 1)) (db 2) r shown.1 in
      let own = own_id (db 2) r apart kept.0 in
      let key_r = key_is key (column r 1) kept.1 in
      (r, kept.0, kept.1, shown.2 ∙ rw (own, key_r))

  -- no two rows were shown, since behind the statement each key is there once
  never_two : (x y : Row) (more : List Row) (next : Trees) → IsShown (x ∷ y ∷ more) → Applies both_schema Enforced db (edit_by (x ∷ y ∷ more)) next → ⊥
  never_two x y more next same step =
      let all = x ∷ y ∷ more in
      let a = from all x same (inl refl) in
      let b = from all y same (inr (inl refl)) in
      let news : List Row = (edit_by all).news in
      let left : List Row = left_by db (edit_by all) in
      let new_x : Row = cast_row results (drop 1 x) in
      let new_y : Row = cast_row results (drop 1 y) in
      let x_is : new_x ≡ row_of (id_of a.0) key value number = ap (λ s. cast_row results (drop 1 s)) a.3 ∙ cast_new key value number db apart (id_of a.0) in
      let y_is : new_y ≡ row_of (id_of b.0) key value number = ap (λ s. cast_row results (drop 1 s)) b.3 ∙ cast_new key value number db apart (id_of b.0) in
      let has_x : Has (next 2) new_x = subst (λ rows. Has rows new_x) (sym step.rows) (put_all_adds news left new_x step.fresh (inl refl)) in
      let has_y : Has (next 2) new_y = subst (λ rows. Has rows new_y) (sym step.rows) (put_all_adds news left new_y step.fresh (inr (inl refl))) in
      let tied : id_of b.0 ≡ id_of a.0 = same_key key next (row_of (id_of a.0) key value number) (row_of (id_of b.0) key value number) step.fits (subst (Has (next 2)) x_is has_x) (subst (Has (next 2)) y_is has_y) refl refl refl refl in
      let free = denied _ (and_parts _ _ (and_parts _ _ step.fresh).1).0 in
      let apart_ids = untaken (put_row new_x left) new_y free new_x (has_put new_x left) in
      let ids : is_eq (value_cmp (Int (id_of a.0)) (Int (id_of b.0))) ≡ false = subst (λ (r : Row). is_eq (value_cmp (Int (id_of a.0)) (rowid r)) ≡ false) y_is (subst (λ (r : Row). is_eq (value_cmp (rowid r) (rowid new_y)) ≡ false) x_is apart_ids) in
      true≢false (sym (ap is_eq (tied_itself value_cmp_total (Int (id_of a.0)))) ∙ subst (λ id. is_eq (value_cmp (Int (id_of a.0)) (Int id)) ≡ false) tied ids)

  -- a row was met, and has the new value and number
  some : (rows : List Row) (next : Trees) → 0 < length (edit_by rows).news → IsShown rows → Applies both_schema Enforced db (edit_by rows) next → PutsIn key value number db next
  some [] next met same step = absurd (omega (arith, met))
  some (x ∷ []) next met same step =
      let a = from (x ∷ []) x same (inl refl) in
      let id : ℤ = id_of a.0 in
      let made : edit_by (x ∷ []) ≡ record { table = results; gone = id ∷ []; news = row_of id key value number ∷ [] } =
      ap (λ s. edit_by (s ∷ [])) a.3 ∙ rw (cast_new key value number db apart id) in
      changed_in key value number db apart a.0 next a.1 a.2 (step.tables.0 (λ e. absurd (omega (arith, e)))) (step.rows ∙ ap (edited db) made) step.fits (ap (λ (e : Edit). are_fresh (left_by db e) e.news) (sym made) ∙ step.fresh)
  some (x ∷ y ∷ more) next met same step = absurd (never_two x y more next same step)

  -- no row was met, and all are as they were
  none : (rows : List Row) (next : Trees) → length (edit_by rows).news ≡ 0 → Applies both_schema Enforced db (edit_by rows) next → (next 0 ≡ db 0) × (next 2 ≡ db 2)
  none [] next met step = (step.tables.0 (λ e. absurd (omega (arith, e))), step.rows)
  none (x ∷ more) next met step = absurd (omega (arith, met))

-- ---- the statement

pub record Updates (key : List ℕ) (value number : ℤ) (count : ℕ) (old new : Database) : Type 0 where
  pub schema : new.schema ≡ both_schema
  pub some : 0 < count → PutsIn key value number old.trees new.trees
  pub none : count ≡ 0 → (new.trees 0 ≡ old.trees 0) × (new.trees 2 ≡ old.trees 2)

pub updates : (old new : State) (key : List ℕ) (value number : ℤ) (count : ℕ) → IsReady old.now → Executes update_text (Text key ∷ Int value ∷ Int number ∷ []) old new (Ok count)
    → Updates key value number count old.now new.now
updates old new key value number count ready h =
    let given : Row = Text key ∷ Int value ∷ Int number ∷ [] in
    let db : Trees = old.now.trees in
    let command = Update 1 (record { lets = []; body = update_query }) in
    let w = runs_as update_text given old new both_schema ready.schema command update_is update_plain count h in
    let text = statement_of update_text (understood both_schema update_text) in
    let done = went (subst (λ s. Does old.step_limit (mode_of old) given (record old.now { schema = s }) text None command (Ok (w.tally, new.now))) ready.schema w.changed) in
    let queried = went done.1 in
    let wrote = went queried.2 in
    let told = same_value (went (went done.2).2).2 in
    let now = ap (λ (p : Tally × Database). p.1) told in
    let edit : Edit = edit_of db results (ids_of queried.0) Given 1 queried.0 in
    let made = same_value wrote.2 in
    let trees : done.0.trees ≡ wrote.0 = ap (λ (it : Written). it.trees) made in
    let counted : count ≡ length edit.news = w.counted ∙ ap (λ (p : Tally × Database). unwrap_or p.0.rows 0) told ∙ ap (λ (it : Written). length it.rows) made in
    let step = one_step both_schema _ db wrote.0 edit refl wrote.1 in
    let a : IsAnswer update_query (overlay db []) given queried.0 = queried.1.answer Null in
    let kept : map (λ (o : Output). o.1) a.kept ≡ map (shown_as key value number) (rows_with key (db 2)) =
    ap (map (λ (o : Output). o.1)) (a.distinct ∙ ap (map (output update_query)) a.grouped) ∙ shows key value number (db 2) in
    let same : IsPermutation (map (shown_as key value number) (rows_with key (db 2))) queried.0 =
    subst (λ rows. IsPermutation rows queried.0) kept (subst (IsPermutation (map (λ (o : Output). o.1) a.kept)) (sym a.shown) (IsPermutation-map (λ (o : Output). o.1) a.kept a.ordered a.same)) in
    let all : new.now.trees ≡ wrote.0 = ap (λ (d : Database). d.trees) now ∙ trees in
    record {
      schema = ap (λ (d : Database). d.schema) now;
      some = λ met. subst (PutsIn key value number db) (sym all) (some key value number db ready.apart queried.0 wrote.0 (subst (λ n. 0 < n) counted met) same step);
      none = λ met. subst (λ (t : Trees). (t 0 ≡ db 0) × (t 2 ≡ db 2)) (sym all) (none key value number db ready.apart queried.0 wrote.0 (sym counted ∙ met) step);
    }

updated : (old new : Database) (key : List ℕ) (value number : ℤ) → new.schema ≡ both_schema → PutsIn key value number old.trees new.trees
    → IsReady new × (table_of new ≡ put (table_of old) key (Some (value, number))) × (new.trees 0 ≡ old.trees 0)
updated old new key value number schema it = (record { schema = schema; apart = it.apart }, it.table, it.others)

-- an update that met a row makes the change
pub renews : (old new : State) (key : List ℕ) (value number : ℤ) (count : ℕ) → 0 < count → ExecutesInside 0 update_text (Text key ∷ Int value ∷ Int number ∷ []) old new (Ok count) → Makes key (Some (value, number)) old new
renews old new key value number count met h =
    makes_by update_text _ old new key _ count h (λ ready. let it = updates old new key value number count ready h.0 in updated old.now new.now key value number it.schema (it.some met))
