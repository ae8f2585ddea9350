-- The rows that a query answers are the table.
use Rattle.std.proofs.Common.{◌≡◌, ℕ, ℤ, pos, Bool, true, false, cond, List, [], ◌∷◌, map, flat_map, Option, Some, None, inl, inr, Less, refl, sym, ap, subst, ◌∙◌}
use Rattle.std.proofs.lemmas.Cmp.{tied_itself, nat_list_cmp_total}
use Rattle.std.proofs.lemmas.List.Sorted.{IsPermutation-sym, IsPermutation-map}
use Rattle.std.specs.Cmp.Lexicographic.{slice_cmp}
use Rattle.std.specs.List.Sorted.{IsPermutation}
use Rattle.std.specs.Ordering.{nat_cmp}
use Rattle.sqlite.specs.declared.types.Value.{Value}
use Rattle.sqlite.specs.declared.types.Value.TheVariants.{Null, Int, Real, Text, Blob}
use Rattle.sqlite.specs.Order.{column, Row as Shown}
use Rattle.sqlite.specs.Query.{IsAnswer, output, Output}
use Rattle.sqlite.specs.Program.{overlay}
use Rattle.sqlite.specs.Tree.{Trees}
use Rattle.sqlite_sql.specs.Term.{Env}
use Rattle.sqlite_rules.specs.Lists.{Has}
use Rattle.sqlite_rules.proofs.ListLemmas.{all_has}
use Rattle.txn_names.specs.Path.{label_eq}
use Rattle.txn_names.proofs.Exports.{same_label}
use Rattle.durable_top.specs.declared.store.Row.{Row}
use Rattle.serial_spec.specs.Rows.{IsRising}
use Rattle.durable_top.specs.Store.{plain}
use Rattle.durable_top.specs.Numbered.{Numbered, under, entries_in}
use Rattle.sql_store.specs.Load.{load_query, old_query, ids_query, old_ids_query}
use Rattle.sql_store.specs.Reading.{told, seen, seen_old}
use Rattle.sql_store.specs.Table.{is_key, int_in, both, entry_of, old_entry, map_of, moved}
use Rattle.sql_store.proofs.Tables.{has_permuted, has_mapped, mapped_has, shown_ids}

-- what the queries show of a row of their table
abbrev pub shown_row : Shown → Shown
shown_row r = column r 1 ∷ column r 2 ∷ column r 3 ∷ []

abbrev pub shown_old : Shown → Shown
shown_old r = column r 1 ∷ column r 2 ∷ []

abbrev envs : List Shown → List Env
envs = flat_map (λ r. ([] ∷ r ∷ []) ∷ [])

shows_all : (tree : List Shown) → map (λ (o : Output). o.1) (map (output load_query) (envs tree)) ≡ map shown_row tree
shows_all [] = refl
shows_all (r ∷ tree) = ap (λ rows. shown_row r ∷ rows) (shows_all tree)

shows_old : (tree : List Shown) → map (λ (o : Output). o.1) (map (output old_query) (envs tree)) ≡ map shown_old tree
shows_old [] = refl
shows_old (r ∷ tree) = ap (λ rows. shown_old r ∷ rows) (shows_old tree)

shows_ids : (tree : List Shown) → map (λ (o : Output). o.1) (map (output ids_query) (envs tree)) ≡ shown_ids tree
shows_ids [] = refl
shows_ids (r ∷ tree) = ap (λ rows. (column r 0 ∷ []) ∷ rows) (shows_ids tree)

shows_old_ids : (tree : List Shown) → map (λ (o : Output). o.1) (map (output old_ids_query) (envs tree)) ≡ shown_ids tree
shows_old_ids [] = refl
shows_old_ids (r ∷ tree) = ap (λ rows. (column r 0 ∷ []) ∷ rows) (shows_old_ids tree)

pub answered : (db : Trees) (rows : List Shown) → IsAnswer load_query (overlay db []) [] rows → IsPermutation (map shown_row (db 2)) rows
answered db rows a =
    let kept : map (λ (o : Output). o.1) a.kept ≡ map shown_row (db 2) =
    ap (map (λ (o : Output). o.1)) (a.distinct ∙ ap (map (output load_query)) a.grouped) ∙ shows_all (db 2) in
    subst (λ xs. IsPermutation xs rows) kept (subst (IsPermutation (map (λ (o : Output). o.1) a.kept)) (sym a.shown) (IsPermutation-map (λ (o : Output). o.1) a.kept a.ordered a.same))

pub answered_old : (db : Trees) (rows : List Shown) → IsAnswer old_query (overlay db []) [] rows → IsPermutation (map shown_old (db 0)) rows
answered_old db rows a =
    let kept : map (λ (o : Output). o.1) a.kept ≡ map shown_old (db 0) =
    ap (map (λ (o : Output). o.1)) (a.distinct ∙ ap (map (output old_query)) a.grouped) ∙ shows_old (db 0) in
    subst (λ xs. IsPermutation xs rows) kept (subst (IsPermutation (map (λ (o : Output). o.1) a.kept)) (sym a.shown) (IsPermutation-map (λ (o : Output). o.1) a.kept a.ordered a.same))

pub answered_ids : (db : Trees) (rows : List Shown) → IsAnswer ids_query (overlay db []) [] rows → IsPermutation (shown_ids (db 2)) rows
answered_ids db rows a =
    let kept : map (λ (o : Output). o.1) a.kept ≡ shown_ids (db 2) =
    ap (map (λ (o : Output). o.1)) (a.distinct ∙ ap (map (output ids_query)) a.grouped) ∙ shows_ids (db 2) in
    subst (λ xs. IsPermutation xs rows) kept (subst (IsPermutation (map (λ (o : Output). o.1) a.kept)) (sym a.shown) (IsPermutation-map (λ (o : Output). o.1) a.kept a.ordered a.same))

pub answered_old_ids : (db : Trees) (rows : List Shown) → IsAnswer old_ids_query (overlay db []) [] rows → IsPermutation (shown_ids (db 0)) rows
answered_old_ids db rows a =
    let kept : map (λ (o : Output). o.1) a.kept ≡ shown_ids (db 0) =
    ap (map (λ (o : Output). o.1)) (a.distinct ∙ ap (map (output old_ids_query)) a.grouped) ∙ shows_old_ids (db 0) in
    subst (λ xs. IsPermutation xs rows) kept (subst (IsPermutation (map (λ (o : Output). o.1) a.kept)) (sym a.shown) (IsPermutation-map (λ (o : Output). o.1) a.kept a.ordered a.same))

-- ---- keys, values and numbers side by side

abbrev Triple : Type 0
Triple = Value × (Value × Value)

abbrev triple_entry : Triple → Option (ℤ × ℤ)
triple_entry p = both (int_in p.1.0) (int_in p.1.1)

abbrev triples_map : List Triple → Numbered
triples_map [] k = None
triples_map (p ∷ ps) k = cond (is_key k p.0) (triple_entry p) (triples_map ps k)

from_tree : (tree : List Shown) (k : List ℕ) → triples_map (map seen (map shown_row tree)) k ≡ map_of tree k
from_tree [] k = refl
from_tree (r ∷ tree) k = ap (cond (is_key k (column r 1)) (entry_of r)) (from_tree tree k)

zero_is : (v : Value) → both (int_in v) (Some (pos 0)) ≡ under (pos 0) (int_in v)
zero_is Null = refl
zero_is (Int n) = refl
zero_is (Real x) = refl
zero_is (Text t) = refl
zero_is (Blob b) = refl

from_old : (tree : List Shown) (k : List ℕ) → triples_map (map seen_old (map shown_old tree)) k ≡ moved tree k
from_old [] k = refl
from_old (r ∷ tree) k = ap (λ e. cond (is_key k (column r 1)) e (triples_map (map seen_old (map shown_old tree)) k)) (zero_is (column r 2)) ∙ ap (cond (is_key k (column r 1)) (old_entry r)) (from_old tree k)

-- those that agree on the key give what they say
agreed : (k : List ℕ) (v : Option (ℤ × ℤ)) (ps : List Triple) → ((p : Triple) → Has ps p → is_key k p.0 ≡ true → triple_entry p ≡ v)
    → (((p : Triple) → Has ps p → is_key k p.0 ≡ false) → v ≡ None) → triples_map ps k ≡ v
agreed k v [] each none = sym (none (λ p has. absurd has))
agreed k v (q ∷ ps) each none = go (is_key k q.0) refl (λ e. agreed k v ps (λ p has. each p (inr has)) (λ others. none (λ p has. elim has [
  | inl is ↦ subst (λ (x : Triple). is_key k x.0 ≡ false) (sym is) e
  | inr more ↦ others p more
])))
  where
    go : (b : Bool) → is_key k q.0 ≡ b → (is_key k q.0 ≡ false → triples_map ps k ≡ v) → cond b (triple_entry q) (triples_map ps k) ≡ v
    go true e rest = each q (inl refl) e
    go false e rest = rest e

-- ---- rows in order have each key once

abbrev keys : List Row → List (List ℕ)
keys rows = map (λ r. r.0) (plain rows)

key_there : (rows : List Row) (r : Row) → Has rows r → Has (keys rows) r.key
key_there [] r has = absurd has
key_there (x ∷ rows) r (inl e) = inl (ap (λ (q : Row). q.key) e)
key_there (x ∷ rows) r (inr has) = inr (key_there rows r has)

not_below : (k : List ℕ) → slice_cmp nat_cmp k k ≡ Less → ⊥
not_below k less = let tied = tied_itself nat_list_cmp_total k in absurd cc

pub found : (rows : List Row) (k : List ℕ) (r : Row) → IsRising (plain rows) → Has rows r → label_eq r.key k ≡ true → entries_in rows k ≡ Some (r.value, r.commit)
found [] k r rising has is = absurd has
found (x ∷ rows) k r rising (inl e) is =
    ap (λ b. cond b (Some (x.value, x.commit)) (entries_in rows k)) (subst (λ (q : Row). label_eq q.key k ≡ true) e is) ∙ ap (λ (q : Row). Some (q.value, q.commit)) (sym e)
found (x ∷ rows) k r rising (inr has) is = go (label_eq x.key k) refl (found rows k r rising.1 has is)
  where
    go : (b : Bool) → label_eq x.key k ≡ b → entries_in rows k ≡ Some (r.value, r.commit) → cond b (Some (x.value, x.commit)) (entries_in rows k) ≡ Some (r.value, r.commit)
    go true e rest =
        let below = all_has (λ q. slice_cmp nat_cmp x.key q ≡ Less) (keys rows) r.key rising.0 (key_there rows r has) in
        absurd (not_below k (subst (λ q. slice_cmp nat_cmp q k ≡ Less) (same_label x.key k e) (subst (λ q. slice_cmp nat_cmp x.key q ≡ Less) (same_label r.key k is) below)))
    go false e rest = rest

absent : (rows : List Row) (k : List ℕ) → ((r : Row) → Has rows r → label_eq r.key k ≡ false) → entries_in rows k ≡ None
absent [] k none = refl
absent (x ∷ rows) k none = ap (λ b. cond b (Some (x.value, x.commit)) (entries_in rows k)) (none x (inl refl)) ∙ absent rows k (λ r has. none r (inr has))

same_triples : (xs : List Triple) (read : List Row) → IsPermutation xs (map told read) → IsRising (plain read) → (k : List ℕ) → entries_in read k ≡ triples_map xs k
same_triples xs read same rising k = sym (agreed k (entries_in read k) xs
    (λ p has key. let it = has_mapped told read p (has_permuted xs (map told read) p same has) in
    ap triple_entry it.2 ∙ sym (found read k it.0 rising it.1 (subst (λ (x : Triple). is_key k x.0 ≡ true) it.2 key)))
    (λ none. absent read k (λ r has. none (told r) (has_permuted (map told read) xs (told r) (IsPermutation-sym xs (map told read) same) (mapped_has told read r has)))))

pub same_map : (tree rows : List Shown) (read : List Row) → IsPermutation (map shown_row tree) rows → map told read ≡ map seen rows → IsRising (plain read) → entries_in read ≡ map_of tree
same_map tree rows read same is rising =
    let xs = map seen (map shown_row tree) in
    let all : IsPermutation xs (map told read) = subst (IsPermutation xs) (sym is) (IsPermutation-map seen (map shown_row tree) rows same) in
    let each = λ (k : List ℕ). same_triples xs read all rising k ∙ from_tree tree k in
    λ i k. each k i

pub same_moved : (tree rows : List Shown) (read : List Row) → IsPermutation (map shown_old tree) rows → map told read ≡ map seen_old rows → IsRising (plain read) → entries_in read ≡ moved tree
same_moved tree rows read same is rising =
    let xs = map seen_old (map shown_old tree) in
    let all : IsPermutation xs (map told read) = subst (IsPermutation xs) (sym is) (IsPermutation-map seen_old (map shown_old tree) rows same) in
    let each = λ (k : List ℕ). same_triples xs read all rising k ∙ from_old tree k in
    λ i k. each k i
