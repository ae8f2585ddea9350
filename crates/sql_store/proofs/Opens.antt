-- What the opening makes of a database.
use Rattle.std.proofs.Common.{◌||◌, ◌&&◌, ◌≡◌, inl, inr, ℕ, ◌+◌, ◌<◌, ℤ, Bool, true, false, cond, List, [], ◌∷◌, drop, length, get_or, map, Option, Some, None, refl, sym, ap, subst, ◌∙◌}
use Rattle.std.proofs.lemmas.List.{drop_more}
use Rattle.std.proofs.lemmas.Bool.{and_parts, false≢true}
use Rattle.sqlite.specs.Schema.{Schema}
use Rattle.std.specs.List.Sorted.{IsPermutation}
use Rattle.std.proofs.lemmas.List.Sorted.{length_permutation}
use Rattle.sqlite.specs.Effect.{Database}
use Rattle.sqlite.specs.Order.{Row as Shown}
use Rattle.txn_names.specs.Path.{label_eq}
use Rattle.txn_names.proofs.Exports.{label_eq_self}
use Rattle.serial_spec.specs.Serial.{Map}
use Rattle.durable_top.specs.declared.store.Row.{Row}
use Rattle.durable_top.specs.Numbered.{Numbered, numbers_of, entries_in}
use Rattle.sql_store.specs.Laid.{put, entry_else, laid}
use Rattle.sql_store.specs.Reading.{told}
use Rattle.sql_store.specs.Ids.{IsDecided}
use Rattle.sql_store.specs.Results.{no_schema, old_schema, both_schema}
use Rattle.sql_store.specs.Table.{moved, map_of, table_of, AreApart, IsReady, IsMoved}
use Rattle.std.specs.Prelude.{IsTrue}
use Rattle.sql_store.specs.Inside.{AreMade, IsOpened, AreRead, Settles, KnowsApart, IsOurs, AreNumbersOf, FoundOut}

-- ---- rows laid over a table, from the last on

pub laid_more : (rows : List Row) (i : ℕ) (r : Row) (m : Numbered) → i < length rows → r ≡ get_or rows i r → put (laid (drop (i + 1) rows) m) r.key (Some (r.value, r.commit)) ≡ laid (drop i rows) m
laid_more rows i r m within at =
    let each : (k : List ℕ) → put (laid (drop (i + 1) rows) m) r.key (Some (r.value, r.commit)) k ≡ laid (r ∷ drop (i + 1) rows) m k = λ k. go (label_eq r.key k) (entries_in (drop (i + 1) rows) k) (m k) in
    let same : put (laid (drop (i + 1) rows) m) r.key (Some (r.value, r.commit)) ≡ laid (r ∷ drop (i + 1) rows) m = λ j k. each k j in
    same ∙ ap (λ rs. laid rs m) (ap (λ q. q ∷ drop (i + 1) rows) at ∙ sym (drop_more rows i r within))
  where
    go : (b : Bool) (x y : Option (ℤ × ℤ)) → cond b (Some (r.value, r.commit)) (entry_else x y) ≡ entry_else (cond b (Some (r.value, r.commit)) x) y
    go true x y = refl
    go false x y = refl

-- over an empty table they are the table
pub laid_alone : (rows : List Row) (m : Numbered) → ((k : List ℕ) → m k ≡ None) → laid rows m ≡ entries_in rows
laid_alone rows m none =
    let each : (k : List ℕ) → laid rows m k ≡ entries_in rows k = λ k. ap (entry_else (entries_in rows k)) (none k) ∙ go (entries_in rows k) in
    λ i k. each k i
  where
    go : (x : Option (ℤ × ℤ)) → entry_else x None ≡ x
    go None = refl
    go (Some e) = refl

-- ---- no rows

pub no_rows : {X Y : Type 0} (f : X → Y) (xs : List X) → map f xs ≡ [] → xs ≡ []
no_rows f [] e = refl
no_rows f (x ∷ xs) e = absurd cc

pub nothing_from : {X : Type 0} (xs : List X) → IsPermutation xs [] → xs ≡ []
nothing_from [] same = refl
nothing_from (x ∷ xs) same = absurd (let e = length_permutation (x ∷ xs) [] same in cc)

-- where nothing was read of the rows, the tree has none
pub none_read : (show : Shown → Shown) (see : Shown → _) (tree rows : List Shown) (read : List Row) → IsPermutation (map show tree) rows → map told read ≡ map see rows → read ≡ [] → tree ≡ []
none_read show see tree rows read same is e =
    let none : rows ≡ [] = no_rows see rows (sym is ∙ ap (map told) e) in
    no_rows show tree (nothing_from (map show tree) (subst (IsPermutation (map show tree)) none same))

-- ---- the three ways

empty_maps : moved [] ≡ map_of []
empty_maps = λ i k. None

module _ (old mid new : Database) (old_rows new_rows : List Row) (made : AreMade old mid) (read : mid.schema ≡ both_schema → AreRead old_rows new_rows mid)
    (settled : IsReady mid → AreApart (mid.trees 0) → Settles old_rows new_rows mid new) (kept : mid.schema ≡ both_schema → mid.trees 0 ≡ [] → new ≡ mid) where
  -- the new table was empty, so that the rows of the old one are the table
  alone : mid.schema ≡ both_schema → mid.trees 2 ≡ [] → table_of new ≡ laid old_rows (table_of mid) → table_of new ≡ moved (mid.trees 0)
  alone schema none is = is ∙ laid_alone old_rows (table_of mid) (λ k. ap (λ t. map_of t k) none) ∙ (read schema).old_is

  fresh : mid.schema ≡ both_schema → mid.trees 2 ≡ [] → AreApart (mid.trees 0) → IsMoved new × (table_of new ≡ moved (mid.trees 0))
  fresh schema none apart =
      let ready : IsReady mid = record { schema = schema; apart = subst AreApart (sym none) tt } in
      elim (settled ready apart) [
        | inl it ↦
            let no_old = (read schema).old_none it.0 in (
              subst IsMoved (sym it.1) (record { ready = ready; empty = no_old }),
              ap table_of it.1 ∙ ap map_of none ∙ sym empty_maps ∙ ap moved (sym no_old),
            )
        | inr it ↦ (it.1, alone schema none it.2)
      ]

  pub opened_by : IsOpened old new
  opened_by = record {
    none = λ has.
        let it = made.none has in
        let all = fresh it.0 it.2 (subst AreApart (sym it.1) tt) in
        (all.0, all.1 ∙ ap moved it.1 ∙ empty_maps);
    first = λ has apart.
        let it = made.first has in
        let all = fresh it.0 it.2 (subst AreApart (sym it.1) apart) in
        (all.0, all.1 ∙ ap moved it.1);
    both = λ has apart_old apart_new.
        let same = made.both has in
        let schema : mid.schema ≡ both_schema = ap (λ (d : Database). d.schema) same ∙ has in
        let ready : IsReady mid = record { schema = schema; apart = subst (λ (d : Database). AreApart (d.trees 2)) (sym same) apart_new } in
        elim (settled ready (subst (λ (d : Database). AreApart (d.trees 0)) (sym same) apart_old)) [
          | inl it ↦
              let no_old = (read schema).old_none it.0 in
              (subst IsMoved (sym it.1) (record { ready = ready; empty = no_old }), inl (ap (λ (d : Database). d.trees 0) (sym same) ∙ no_old, it.1 ∙ same))
          | inr it ↦
              let none = (read schema).new_none it.0 in
              (it.1, inr (ap (λ (d : Database). d.trees 2) (sym same) ∙ none, alone schema none it.2 ∙ ap (λ (d : Database). moved (d.trees 0)) same))
        ];
    stays = λ has none.
        let same = made.both has in
        kept (ap (λ (d : Database). d.schema) same ∙ has) (ap (λ (d : Database). d.trees 0) same ∙ none) ∙ same;
  }

-- where the old table has no row none is read
pub none_old : (rows : List Row) (tree : List Shown) → entries_in rows ≡ moved tree → tree ≡ [] → rows ≡ []
none_old [] tree is none = refl
none_old (r ∷ rows) tree is none =
    let nothing : entries_in (r ∷ rows) r.key ≡ None = ap (λ (m : Numbered). m r.key) (is ∙ ap moved none) in
    let something : entries_in (r ∷ rows) r.key ≡ Some (r.value, r.commit) = ap (λ b. cond b (Some (r.value, r.commit)) (entries_in rows r.key)) (label_eq_self r.key) in
    absurd (let e = sym nothing ∙ something in cc)

-- ---- the numbers

-- of the table that the rows make
numbers_by : (old_rows new_rows : List Row) (mid new : Database) (numbers : Map) → AreRead old_rows new_rows mid → Settles old_rows new_rows mid new → AreNumbersOf old_rows new_rows numbers
    → numbers ≡ numbers_of (table_of new)
numbers_by old_rows new_rows mid new numbers read (inl it) are = are.stays it.0 ∙ ap numbers_of (read.new_is ∙ ap table_of (sym it.1))
numbers_by [] new_rows mid new numbers read (inr it) are =
    let none = read.new_none it.0 in
    let is : table_of new ≡ entries_in [] = it.2 ∙ laid_alone [] (table_of mid) (λ k. ap (λ t. map_of t k) none) in
    are.stays refl ∙ ap numbers_of (ap entries_in it.0 ∙ sym is)
numbers_by (r ∷ old_rows) new_rows mid new numbers read (inr it) are =
    let none = read.new_none it.0 in
    let is : table_of new ≡ entries_in (r ∷ old_rows) = it.2 ∙ laid_alone (r ∷ old_rows) (table_of mid) (λ k. ap (λ t. map_of t k) none) in
    are.moves (λ e. absurd cc) ∙ ap numbers_of (sym is)

-- a known database is ready once its tables are made
pub ready_by : (old mid : Database) → AreMade old mid → IsOurs old → KnowsApart old → IsReady mid × AreApart (mid.trees 0)
ready_by old mid made (inl has) apart =
    let it = made.none has in
    (record { schema = it.0; apart = subst AreApart (sym it.2) tt }, subst AreApart (sym it.1) tt)
ready_by old mid made (inr (inl has)) apart =
    let it = made.first has in
    (record { schema = it.0; apart = subst AreApart (sym it.2) tt }, subst AreApart (sym it.1) (apart.first has))
ready_by old mid made (inr (inr has)) apart =
    let same = made.both has in
    let all = apart.both has in (
      record { schema = ap (λ (d : Database). d.schema) same ∙ has; apart = subst (λ (d : Database). AreApart (d.trees 2)) (sym same) all.1 },
      subst (λ (d : Database). AreApart (d.trees 0)) (sym same) all.0,
    )

-- what the tables are told to be after they are made holds of those before
pub knows_by : (old mid : Database) (is_apart : Bool) → AreMade old mid → (mid.schema ≡ both_schema → IsTrue is_apart → AreApart (mid.trees 0) × AreApart (mid.trees 2)) → IsTrue is_apart → KnowsApart old
knows_by old mid is_apart made apart is = record {
  first = λ has. let it = made.first has in subst AreApart it.1 (apart it.0 is).0;
  both = λ has.
      let same = made.both has in
      subst (λ (d : Database). AreApart (d.trees 0) × AreApart (d.trees 2)) same (apart (ap (λ (d : Database). d.schema) same ∙ has) is);
}

pub found_out : (old mid new : Database) (old_rows new_rows : List Row) (is_apart : Bool) (numbers : Map) → AreMade old mid → (mid.schema ≡ both_schema → AreRead old_rows new_rows mid)
    → (mid.schema ≡ both_schema → IsTrue is_apart → AreApart (mid.trees 0) × AreApart (mid.trees 2)) → (mid.schema ≡ both_schema → IsDecided mid is_apart) → (IsReady mid → AreApart (mid.trees 0) → Settles old_rows new_rows mid new)
    → AreNumbersOf old_rows new_rows numbers → FoundOut is_apart numbers old new
found_out old mid new old_rows new_rows is_apart numbers made read apart decided settled are = record {
  apart = knows_by old mid is_apart made apart;
  first = λ has. let it = made.first has in (mid, it.1, it.2, decided it.0);
  both = λ has.
      let same = made.both has in
      subst (λ (d : Database). IsDecided d is_apart) same (decided (ap (λ (d : Database). d.schema) same ∙ has));
  numbered = λ ours knows.
      let ready = ready_by old mid made ours knows in
      numbers_by old_rows new_rows mid new numbers (read ready.0.schema) (settled ready.0 ready.1) are;
}

-- ---- a known database

known_apart : (old : Database) → old.schema ≡ no_schema → KnowsApart old
known_apart old none = record { first = λ has. absurd (empty_first (sym none ∙ has)); both = λ has. absurd (empty_both (sym none ∙ has)) }
  where
    empty_first : no_schema ≡ old_schema → ⊥
    empty_first e = let tables = ap (λ (s : Schema). s.tables) e in cc

    empty_both : no_schema ≡ both_schema → ⊥
    empty_both e = let tables = ap (λ (s : Schema). s.tables) e in cc

moved_by : (old new : Database) → IsOurs old → KnowsApart old → IsOpened old new → IsMoved new
moved_by old new (inl has) apart opened = (opened.none has).0
moved_by old new (inr (inl has)) apart opened = (opened.first has (apart.first has)).0
moved_by old new (inr (inr has)) apart opened = (opened.both has (apart.both has).0 (apart.both has).1).0

pub known_by : (old new : Database) (is_new is_ours is_apart : Bool) (numbers : Map) → (IsTrue is_new → old.schema ≡ no_schema) → (IsTrue is_ours → IsOurs old) → FoundOut is_apart numbers old new → IsOpened old new
    → is_new || (is_ours && is_apart) ≡ true → IsMoved new × (numbers ≡ numbers_of (table_of new))
known_by old new true is_ours is_apart numbers none ours found opened e =
    let apart = known_apart old (none refl) in
    (moved_by old new (inl (none refl)) apart opened, found.numbered (inl (none refl)) apart)
known_by old new false is_ours is_apart numbers none ours found opened e =
    let parts = and_parts is_ours is_apart e in
    let apart = found.apart parts.1 in
    (moved_by old new (ours parts.0) apart opened, found.numbered (ours parts.0) apart)

-- it is known exactly where the rowids rise
pub decided_by : (old new : Database) (is_new is_ours is_apart : Bool) (numbers : Map) → (IsTrue is_new → old.schema ≡ no_schema) → IsTrue is_ours → FoundOut is_apart numbers old new → old.schema ≡ both_schema → IsDecided old (is_new || (is_ours && is_apart))
decided_by old new true is_ours is_apart numbers none ours found has = absurd (let tables = ap (λ (s : Schema). s.tables) (sym (none refl) ∙ has) in cc)
decided_by old new false true is_apart numbers none ours found has = found.both has
decided_by old new false false is_apart numbers none ours found has = absurd (false≢true ours)

pub decided_first : (old new : Database) (is_new is_ours is_apart : Bool) (numbers : Map) → (IsTrue is_new → old.schema ≡ no_schema) → IsTrue is_ours → FoundOut is_apart numbers old new → old.schema ≡ old_schema
    → (mid : Database) × (mid.trees 0 ≡ old.trees 0) × (mid.trees 2 ≡ []) × IsDecided mid (is_new || (is_ours && is_apart))
decided_first old new true is_ours is_apart numbers none ours found has = absurd (let tables = ap (λ (s : Schema). s.tables) (sym (none refl) ∙ has) in cc)
decided_first old new false true is_apart numbers none ours found has = found.first has
decided_first old new false false is_apart numbers none ours found has = absurd (false≢true ours)
