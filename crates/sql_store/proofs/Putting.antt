-- What a row that is put in leaves of the table.
use Rattle.std.proofs.Common.{◌≡◌, ◌≢◌, ◌&&◌, ℕ, ℤ, Bool, true, false, not, cond, List, [], ◌∷◌, Some, None, Ordering, Less, Equal, Greater, inl, inr, sym, ap, subst, ◌∙◌, refl, is_eq, true≢false}
use Rattle.std.specs.Ordering.{is_ne}
use Rattle.std.proofs.lemmas.Bool.{cases_Bool, false≢true}
use Rattle.std.proofs.lemmas.Cmp.{tied_itself}
use Rattle.sqlite.specs.declared.types.Value.{Value}
use Rattle.sqlite.specs.declared.types.Value.TheVariants.{Null, Int, Real, Text, Blob}
use Rattle.sqlite.specs.Order.{Row, column}
use Rattle.sqlite.specs.Kind.TheVariants.{Integer}
use Rattle.sqlite.specs.Cast.{cast, cast_row}
use Rattle.sqlite.specs.Ops.{unary}
use Rattle.sqlite.specs.Collation.TheVariants.{Binary}
use Rattle.sqlite.specs.Tree.{Trees}
use Rattle.sqlite_sql.specs.Ops.{binary, is_true, from_truth}
use Rattle.sqlite_schema.specs.declared.schema.Constraint.TheVariants.{Unique}
use Rattle.sqlite_schema.specs.Rules.{Fits, equal, differ, passes}
use Rattle.sqlite_value.specs.Order.{value_cmp}
use Rattle.sqlite_value.specs.Keys.{first_key}
use Rattle.sqlite_value.proofs.OrderLemmas.{value_cmp_total}
use Rattle.sqlite_trees.specs.Tree.{rowid, has_rowid, put_row, without_rowid}
use Rattle.sqlite_rules.specs.Edit.{next_rowid, is_taken, are_fresh, with_rowid}
use Rattle.sqlite.specs.Rowids.TheVariants.{Chosen}
use Rattle.sqlite_rules.specs.Lists.{Has}
use Rattle.sqlite_rules.proofs.ListLemmas.{all_has, some_from, has_filtered, has_kept}
use Rattle.sqlite_rules.proofs.TableLemmas.{has_put, put_all_keeps}
use Rattle.sql_store.specs.Laid.{put}
use Rattle.txn_names.proofs.Exports.{same_label}
use Rattle.sql_store.specs.Results.{results, both_schema}
use Rattle.sql_store.specs.Table.{is_key, id_of, map_of, AreApart}
use Rattle.sql_store.proofs.Again.{put_again}
use Rattle.sql_store.proofs.Deletes.{told}
use Rattle.sql_store.proofs.Tables.{own_id, same_row, has_own, id_found, ids_tied, filter_same, rows_without, map_removed, map_added, apart_kept, apart_put}

either : (b : Bool) (x : Value) → cond b x x ≡ x
either true x = refl
either false x = refl

pub cast_null : cast Integer Null ≡ Null
unfolding unary
cast_null = either _ Null

pub cast_int : (v : ℤ) → cast Integer (Int v) ≡ Int v
unfolding unary
cast_int v = either _ (Int v)

abbrev pub row_of : ℤ → List ℕ → ℤ → ℤ → Row
row_of id key value number = Int id ∷ Text key ∷ Int value ∷ Int number ∷ []

-- ---- rows with one key are one row

pub key_is : (key : List ℕ) (v : Value) → is_key key v ≡ true → v ≡ Text key
key_is key Null e = absurd (false≢true e)
key_is key (Int n) e = absurd (false≢true e)
key_is key (Real x) e = absurd (false≢true e)
key_is key (Text t) e = ap (λ l. Text l) (same_label t key e)
key_is key (Blob b) e = absurd (false≢true e)

same_id : (a b : ℤ) → differ (Int a) (Int b) ≡ false → a ≡ b
unfolding binary
same_id a b e = ids_tied a b (go (value_cmp (Int a) (Int b)) e)
  where
    go : (o : Ordering) → is_true (from_truth (Some (is_ne o))) ≡ false → is_eq o ≡ true
    go Less e = absurd (true≢false e)
    go Equal e = refl
    go Greater e = absurd (true≢false e)

own_text : (key : List ℕ) → equal Binary (Text key) (Text key) ≡ true
unfolding binary
own_text key = told _ ∙ ap is_eq (tied_itself value_cmp_total (Text key))

unless : (b : Bool) → not b && true ≡ true → b ≡ false
unless true e = absurd (false≢true e)
unless false e = refl

pub same_key : (key : List ℕ) (db : Trees) (a b : Row) → Fits both_schema db → Has (db 2) a → Has (db 2) b → column a 1 ≡ Text key → column b 1 ≡ Text key
    → column a 0 ≡ Int (id_of a) → column b 0 ≡ Int (id_of b) → id_of b ≡ id_of a
unfolding first_key
same_key key db a b fits has_a has_b key_a key_b own_a own_b = elim (cases_Bool (differ (column b 0) (column a 0))) [
  | inl e ↦ absurd (true≢false (sym (some_from (λ other. (equal Binary (column other 1) (column a 1) && true) && differ (column other 0) (column a 0)) (db 2) b has_b (rw (key_a, key_b, own_text key) e))
      ∙ unless _ (all_has (λ r. passes Unique both_schema db results r ≡ true) (db 2) a (fits.rules Unique (λ e. absurd cc)).1.0 has_a)))
  | inr e ↦ same_id (id_of b) (id_of a) (rw (own_a, own_b) at e)
]

pub other_id : (a : Row) (id : ℤ) → column a 0 ≡ Int (id_of a) → id_of a ≢ id → has_rowid id a ≡ false
other_id a id own other = elim (cases_Bool (has_rowid id a)) [ inl e ↦ absurd (other (id_found a id own e)) | inr e ↦ e ]

pub denied : (b : Bool) → not b ≡ true → b ≡ false
denied true e = absurd (false≢true e)
denied false e = refl

pub untaken : (rows : List Row) (new : Row) → is_taken rows new ≡ false → (r : Row) → Has rows r → is_eq (value_cmp (rowid r) (rowid new)) ≡ false
untaken rows new free r has = elim (cases_Bool (is_eq (value_cmp (rowid r) (rowid new)))) [
  | inl e ↦ absurd (true≢false (sym (some_from (λ x. is_eq (value_cmp (rowid x) (rowid new))) rows r has e) ∙ free))
  | inr e ↦ e
]

-- ---- one row

pub record PutsIn (key : List ℕ) (value number : ℤ) (old new : Trees) : Type 0 where
  pub others : new 0 ≡ old 0
  pub apart : AreApart (new 2)
  pub table : map_of (new 2) ≡ put (map_of (old 2)) key (Some (value, number))

module _ (key : List ℕ) (value number : ℤ) (db : Trees) (apart : AreApart (db 2)) where
  pub cast_new : (id : ℤ) → cast_row results (row_of id key value number) ≡ row_of id key value number
  cast_new id = rw (cast_int id, cast_int value, cast_int number)

  abbrev pub numbered : Value → Value → Value → Row
  numbered id v n = with_rowid Chosen (db 2) (id ∷ Text key ∷ v ∷ n ∷ [])

  -- a row that is given none gets the next rowid
  pub new_is : numbered (cast Integer Null) (cast Integer (Int value)) (cast Integer (Int number)) ≡ row_of (next_rowid (db 2)) key value number
  new_is =
      ap (λ id. numbered id (cast Integer (Int value)) (cast Integer (Int number))) cast_null
      ∙ ap (λ v. numbered Null v (cast Integer (Int number))) (cast_int value)
      ∙ ap (numbered Null (Int value)) (cast_int number)

  -- a row is added whose key no row has
  pub added_in : (id : ℤ) (next : Trees) → next 0 ≡ db 0 → next 2 ≡ put_row (row_of id key value number) (db 2) → are_fresh (db 2) (row_of id key value number ∷ []) ≡ true
      → ((r : Row) → Has (db 2) r → is_key key (column r 1) ≡ false) → PutsIn key value number db next
  added_in id next others rows fresh none =
      let new = row_of id key value number in
      let free = untaken (db 2) new (unless _ fresh) in
      record {
        others = others;
        apart = subst AreApart (sym rows) (apart_put new (db 2) refl (λ r has e. true≢false (sym (has_own r (own_id (db 2) r apart has)) ∙ subst (λ i. has_rowid i r ≡ false) (sym e) (free r has))) apart);
        table = ap map_of rows ∙ map_added key value number new refl refl refl (db 2) none free;
      }

  -- the row of the key gets the value and the number
  pub changed_in : (r : Row) (next : Trees) → Has (db 2) r → is_key key (column r 1) ≡ true → next 0 ≡ db 0 → next 2 ≡ put_row (row_of (id_of r) key value number) (without_rowid (id_of r) (db 2)) → Fits both_schema next
      → are_fresh (without_rowid (id_of r) (db 2)) (row_of (id_of r) key value number ∷ []) ≡ true → PutsIn key value number db next
  changed_in r next has is others rows fits fresh =
      let row = row_of (id_of r) key value number in
      let left = without_rowid (id_of r) (db 2) in
      let there = subst (λ all. Has all row) (sym rows) (has_put row left) in
      let was = λ (q : Row) (in_left : Has left q). has_filtered (λ x. not (has_rowid (id_of r) x)) (db 2) q in_left in
      let apart_id = λ (q : Row) (in_left : Has left q) (e : id_of q ≡ id_of r). true≢false (sym (has_own q (own_id (db 2) q apart (was q in_left).0)) ∙ subst (λ i. has_rowid i q ≡ false) (sym e) (denied _ (was q in_left).1)) in
      let free : (q : Row) → Has left q → is_key key (column q 1) ≡ false = λ q in_left. elim (cases_Bool (is_key key (column q 1))) [
        | inl e ↦ absurd (apart_id q in_left (same_key key next row q fits there (subst (λ all. Has all q) (sym rows) (put_all_keeps (row ∷ []) left q fresh in_left)) refl (key_is key (column q 1) e) refl (own_id (db 2) q apart (was q in_left).0)))
        | inr e ↦ e
      ] in
      let gone : (q : Row) → Has (db 2) q → has_rowid (id_of r) q ≡ true → is_key key (column q 1) ≡ true = λ q in_db e.
      subst (λ (x : Row). is_key key (column x 1) ≡ true) (sym (same_row (db 2) q r apart in_db has (id_found q (id_of r) (own_id (db 2) q apart in_db) e))) is in
      let goes : (q : Row) → Has (db 2) q → has_rowid (id_of r) q ≡ is_key key (column q 1) = λ q in_db. elim (cases_Bool (has_rowid (id_of r) q)) [
        | inl e ↦ e ∙ sym (gone q in_db e)
        | inr e ↦ e ∙ sym (free q (has_kept (λ x. not (has_rowid (id_of r) x)) (db 2) q in_db (rw e)))
      ] in
      let without : left ≡ rows_without key (db 2) = filter_same _ _ (db 2) (λ q in_db. ap not (goes q in_db)) in
      record {
        others = others;
        apart = subst AreApart (sym rows) (apart_put row left refl apart_id (apart_kept _ (db 2) apart));
        table = ap map_of rows ∙ map_added key value number row refl refl refl left free (untaken left row (unless _ fresh)) ∙ ap (λ m. put m key (Some (value, number))) (ap map_of without ∙ map_removed key (db 2)) ∙ put_again (map_of (db 2)) key None (Some (value, number));
      }
