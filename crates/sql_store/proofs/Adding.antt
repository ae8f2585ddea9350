-- What an insert leaves, of one row or of several.
use Rattle.std.proofs.Common.{◌≡◌, ◌+◌, ◌/◌, ℕ, ℤ, pos, Bool, true, false, cond, List, [], ◌∷◌, ◌++◌, length, map, drop, None, Some, Option, is_some, unwrap_or, Ok, append_assoc, append-nil, length-append, inl, inr, sym, ap, subst, ◌∙◌, refl, true≢false, arith}
use Rattle.std.proofs.Math.Seq.{get_or-append_seam}
use Rattle.std.proofs.lemmas.List.{get_or-append-add}
use Rattle.std.proofs.lemmas.Bool.{and_parts, cases_Bool, false≢true}
use Rattle.sqlite.specs.Cast.{cast, cast_row}
use Rattle.sqlite.specs.Kind.TheVariants.{Integer}
use Rattle.sqlite.specs.declared.types.Value.TheVariants.{Null, Int, Text}
use Rattle.sqlite.specs.Order.{Row, column}
use Rattle.sqlite.specs.Command.TheVariants.{Insert}
use Rattle.sqlite.specs.Source.TheVariants.{Values}
use Rattle.sqlite.specs.Edit.{edit_of}
use Rattle.sqlite.specs.Rowids.TheVariants.{Chosen}
use Rattle.sqlite.specs.Does.{Tally, Does}
use Rattle.sqlite.specs.Effect.{Database, value_rows}
use Rattle.sqlite.specs.Rows.{Written}
use Rattle.sqlite.specs.Tree.{Trees}
use Rattle.sqlite.specs.Listing.{understood}
use Rattle.sqlite.specs.State.{State, mode_of, Executes, ExecutesInside}
use Rattle.sqlite.proofs.Callers.{IsPlain, command_of, statement_of, runs_as, one_step}
use Rattle.sqlite_schema.specs.declared.schema.Keys.TheVariants.{Enforced}
use Rattle.sqlite_schema.specs.Rules.{Fits}
use Rattle.sqlite_trees.specs.Tree.{has_rowid, put_row}
use Rattle.sqlite_rules.specs.Edit.{next_rowid, are_fresh, numbered, put_all, Applies}
use Rattle.sqlite_rules.specs.Lists.{Has}
use Rattle.sqlite_rules.proofs.TableLemmas.{has_put, put_all_keeps}
use Rattle.txn_names.specs.Path.{label_eq}
use Rattle.txn_names.specs.declared.change.Change.{Change}
use Rattle.serial_spec.specs.Changes.{change_at}
use Rattle.serial_spec.specs.History.{or_else}
use Rattle.durable_top.specs.Numbered.{Numbered, under, entry_or, overlay_numbered}
use Rattle.sql_store.specs.Asked.{have_values, value_of, params_all}
use Rattle.sql_store.specs.Laid.{put}
use Rattle.sql_store.specs.Results.{results, both_schema}
use Rattle.sql_store.specs.Table.{is_key, map_of, table_of, AreApart, IsReady, Makes}
use Rattle.sql_store.specs.inner.Writes.{MakesAll}
use Rattle.sql_store.proofs.Texts.{insert_text, insert_is, insert_plain, rows_terms}
use Rattle.sql_store.proofs.Creates.{went, same_value}
use Rattle.sql_store.proofs.Putting.{row_of, cast_null, cast_int, key_is, same_key, denied, untaken}
use Rattle.sql_store.proofs.Steps.{makes_by}
use Rattle.sql_store.proofs.Tables.{own_id, has_own, map_added, apart_put}

-- ---- the rows that it is given

-- the row of a change, whose rowid is chosen
abbrev source : ℤ → Change → Row
source number c = Null ∷ Text c.key ∷ Int (value_of c) ∷ Int number ∷ []

abbrev cells : ℤ → Change → Row
cells number c = Text c.key ∷ Int (value_of c) ∷ Int number ∷ []

-- each row is that of its change
rows_read : (number : ℤ) (cs : List Change) (front : Row) (from : ℕ) → length front ≡ from
    → value_rows (front ++ params_all number cs) 4 (length cs) (rows_terms from (length cs)) ≡ map (source number) cs
rows_read number [] front from is = refl
rows_read number (c ∷ cs) front from is =
    let all : Row = front ++ params_all number (c ∷ cs) in
    let rest = params_all number (c ∷ cs) in
    let key : column all from ≡ Text c.key = subst (λ n. column all n ≡ Text c.key) is (get_or-append_seam front (Text c.key) _ Null) in
    let value : column all (from + 1) ≡ Int (value_of c) = subst (λ n. column all (n + 1) ≡ Int (value_of c)) is (get_or-append-add front rest 1 Null) in
    let count : column all (from + 2) ≡ Int number = subst (λ n. column all (n + 2) ≡ Int number) is (get_or-append-add front rest 2 Null) in
    let more : value_rows all 4 (length cs) (rows_terms (from + 3) (length cs)) ≡ map (source number) cs =
    subst (λ p. value_rows p 4 (length cs) (rows_terms (from + 3) (length cs)) ≡ map (source number) cs) (append_assoc front (cells number c) (params_all number cs))
    (rows_read number cs (front ++ cells number c) (from + 3) (length-append front (cells number c) ∙ ap (λ n. n + 3) is)) in
    ap (λ v. (Null ∷ v ∷ column all (from + 1) ∷ column all (from + 2) ∷ []) ∷ value_rows all 4 (length cs) (rows_terms (from + 3) (length cs))) key
    ∙ ap (λ v. (Null ∷ Text c.key ∷ v ∷ column all (from + 2) ∷ []) ∷ value_rows all 4 (length cs) (rows_terms (from + 3) (length cs))) value
    ∙ ap (λ v. (Null ∷ Text c.key ∷ Int (value_of c) ∷ v ∷ []) ∷ value_rows all 4 (length cs) (rows_terms (from + 3) (length cs))) count
    ∙ ap (λ rows. source number c ∷ rows) more

cast_source : (number : ℤ) (c : Change) → cast_row results (source number c) ≡ source number c
cast_source number c =
    ap (λ id. id ∷ Text c.key ∷ cast Integer (Int (value_of c)) ∷ cast Integer (Int number) ∷ []) cast_null
    ∙ ap (λ v. Null ∷ Text c.key ∷ v ∷ cast Integer (Int number) ∷ []) (cast_int (value_of c))
    ∙ ap (λ v. Null ∷ Text c.key ∷ Int (value_of c) ∷ v ∷ []) (cast_int number)

casts : (number : ℤ) (cs : List Change) → map (λ s. cast_row results (drop 0 s)) (map (source number) cs) ≡ map (source number) cs
casts number [] = refl
casts number (c ∷ cs) = ap (λ r. r ∷ map (λ s. cast_row results (drop 0 s)) (map (source number) cs)) (cast_source number c) ∙ ap (λ rows. source number c ∷ rows) (casts number cs)

-- ---- the changes in their order

-- the first change is put into the table, and the others are made of that
pub overlay_first : (n : ℤ) (c : Change) (cs : List Change) (m : Numbered) → overlay_numbered n cs (put m c.key (under n c.value)) ≡ overlay_numbered n (c ∷ cs) m
overlay_first n c cs m = λ i k. chosen (change_at cs k) (label_eq c.key k) c.value (m k) i
  where
    chosen : (x : Option (Option ℤ)) (b : Bool) (v : Option ℤ) (w : Option (ℤ × ℤ)) → entry_or n x (cond b (under n v) w) ≡ entry_or n (or_else x (cond b (Some v) None)) w
    chosen None true v w = refl
    chosen None false v w = refl
    chosen (Some u) b v w = refl

-- a key that is given a value has it
valued : (n : ℤ) (v : Option ℤ) → is_some v ≡ true → ◌≡◌ {A = Option (ℤ × ℤ)} (Some (unwrap_or v (pos 0), n)) (under n v)
valued n None e = absurd (false≢true e)
valued n (Some v) e = refl

-- ---- rows are put in one after another

record Added (number : ℤ) (cs : List Change) (old new : List Row) : Type 0 where
  apart : AreApart new
  table : map_of new ≡ overlay_numbered number cs (map_of old)

module _ (number : ℤ) (next : Trees) (fits : Fits both_schema next) where
  -- behind the insert each key is there once, so no row had the key of the one that is put
  had_none : (key : List ℕ) (value id : ℤ) (rows news : List Row) → AreApart rows → next 2 ≡ put_all rows (row_of id key value number ∷ news) → are_fresh rows (row_of id key value number ∷ news) ≡ true
      → (r : Row) → Has rows r → is_key key (column r 1) ≡ false
  had_none key value id rows news apart there fresh r has =
      let new = row_of id key value number in
      let parts = and_parts _ _ fresh in
      let own = own_id rows r apart has in
      let other : has_rowid id r ≡ false = untaken rows new (denied _ parts.0) r has in
      let put_in = subst (λ all. Has all new) (sym there) (put_all_keeps news (put_row new rows) new parts.1 (has_put new rows)) in
      let kept = subst (λ all. Has all r) (sym there) (put_all_keeps (new ∷ news) rows r fresh has) in
      elim (cases_Bool (is_key key (column r 1))) [
        | inl e ↦ absurd (true≢false (sym (has_own r own) ∙ subst (λ i. has_rowid i r ≡ false) (sym (same_key key next new r fits put_in kept refl (key_is key (column r 1) e) refl own)) other))
        | inr e ↦ e
      ]

  added : (cs : List Change) (rows : List Row) → have_values cs ≡ true → AreApart rows → next 2 ≡ put_all rows (numbered Chosen rows (map (source number) cs))
      → are_fresh rows (numbered Chosen rows (map (source number) cs)) ≡ true → Added number cs rows (next 2)
  added [] rows values apart there fresh = record { apart = subst AreApart (sym there) apart; table = ap map_of there }
  added (c ∷ cs) rows values apart there fresh =
      let new = row_of (next_rowid rows) c.key (value_of c) number in
      let news = numbered Chosen (put_row new rows) (map (source number) cs) in
      let parts = and_parts _ _ fresh in
      let valid = and_parts (is_some c.value) (have_values cs) values in
      let free = untaken rows new (denied _ parts.0) in
      let none = had_none c.key (value_of c) (next_rowid rows) rows news apart there fresh in
      let alone = apart_put new rows refl (λ r has e. true≢false (sym (has_own r (own_id rows r apart has)) ∙ subst (λ i. has_rowid i r ≡ false) (sym e) (free r has))) apart in
      let more = added cs (put_row new rows) valid.1 alone there parts.1 in
      record {
        apart = more.apart;
        table = more.table
            ∙ ap (overlay_numbered number cs) (map_added c.key (value_of c) number new refl refl refl rows none free ∙ ap (put (map_of rows) c.key) (valued number c.value valid.0))
            ∙ overlay_first number c cs (map_of rows);
      }

-- ---- the statement

added_by : (number : ℤ) (cs : List Change) (db next : Trees) (rows : List Row) → have_values cs ≡ true → AreApart (db 2) → rows ≡ map (source number) cs
    → Applies both_schema Enforced db (edit_of db results [] Chosen 0 rows) next → Added number cs (db 2) (next 2)
added_by number cs db next rows values apart is step =
    let news : (edit_of db results [] Chosen 0 rows).news ≡ numbered Chosen (db 2) (map (source number) cs) =
    ap (λ all. (edit_of db results [] Chosen 0 all).news) is ∙ ap (numbered Chosen (db 2)) (casts number cs) in
    added number next step.fits cs (db 2) values apart (step.rows ∙ ap (put_all (db 2)) news) (subst (λ all. are_fresh (db 2) all ≡ true) news step.fresh)

pub adds_all : (text : List ℕ) (size : ℕ) → command_of (understood both_schema text) ≡ Insert 1 (Values (rows_terms 0 size) 4) → IsPlain (understood both_schema text) → length (rows_terms 0 size) / 4 ≡ size
    → (old new : State) (number : ℤ) (cs : List Change) (count : ℕ) → length cs ≡ size → have_values cs ≡ true → IsReady old.now → Executes text (params_all number cs) old new (Ok count) → MakesAll number cs old new
adds_all text size is plain whole old new number cs count len values ready h =
    let params : Row = params_all number cs in
    let db : Trees = old.now.trees in
    let command = Insert 1 (Values (rows_terms 0 size) 4) in
    let w = runs_as text params old new both_schema ready.schema command is plain count h in
    let statement = statement_of text (understood both_schema text) in
    let done = went (subst (λ s. Does old.step_limit (mode_of old) params (record old.now { schema = s }) statement None command (Ok (w.tally, new.now))) ready.schema w.changed) in
    let now = ap (λ (p : Tally × Database). p.1) (same_value (went (went done.2).2).2) in
    let given = went done.1 in
    let wrote = went (went given.2).2 in
    let counted = went wrote.2 in
    let trees : done.0.trees ≡ wrote.0 = ap (λ (it : Written). it.trees) (same_value counted.2) ∙ same_value counted.1 in
    let step = one_step both_schema _ db wrote.0 (edit_of db results [] Chosen 0 given.0) refl wrote.1 in
    let rows : given.0 ≡ map (source number) cs =
    given.1.1 ∙ ap (λ p. value_rows p 4 (length (rows_terms 0 size) / 4) (rows_terms 0 size)) (append-nil params) ∙ ap (λ k. value_rows params 4 k (rows_terms 0 size)) whole
    ∙ ap (λ k. value_rows params 4 k (rows_terms 0 k)) (sym len) ∙ rows_read number cs [] 0 refl in
    let it = added_by number cs db wrote.0 given.0 values ready.apart rows step in
    let others : wrote.0 0 ≡ db 0 = step.tables.0 (λ e. absurd (omega (arith, e))) in
    let last : new.now.trees ≡ wrote.0 = ap (λ (d : Database). d.trees) now ∙ trees in
    record {
      ready = record { schema = ap (λ (d : Database). d.schema) now; apart = subst (λ (t : Trees). AreApart (t 2)) (sym last) it.apart };
      table = ap (λ (t : Trees). map_of (t 2)) last ∙ it.table;
      others = ap (λ (t : Trees). t 0) last ∙ others;
    }

-- an insert of one row makes its change
pub adds : (old new : State) (key : List ℕ) (value number : ℤ) (count : ℕ) → ExecutesInside 0 insert_text (Text key ∷ Int value ∷ Int number ∷ []) old new (Ok count) → Makes key (Some (value, number)) old new
adds old new key value number count h =
    let c : Change = record { key = key; value = Some value } in
    makes_by insert_text _ old new key _ count h (λ ready.
    let it = adds_all insert_text 1 insert_is insert_plain refl old new number (c ∷ []) count refl refl ready h.0 in
    (it.ready, it.table ∙ sym (overlay_first number c [] (table_of old.now)), it.others))
