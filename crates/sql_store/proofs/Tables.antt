-- What writes make of the rows of the table.
use Rattle.std.proofs.Common.{◌≡◌, ◌≢◌, ◌||◌, inl, inr, ℕ, ℤ, Bool, true, false, not, cond, List, [], ◌∷◌, map, filter, Option, Some, None, Ordering, Less, Equal, Greater, is_eq, refl, sym, ap, subst, ◌∙◌, true≢false}
use Rattle.std.proofs.lemmas.Bool.{cases_Bool, false≢true}
use Rattle.std.proofs.lemmas.Cmp.{tied_itself}
use Rattle.std.proofs.lemmas.Map.Lookups.{exact_signed}
use Rattle.std.proofs.lemmas.List.Sorted.{Contains-permutation, IsPermutation-sym}
use Rattle.std.specs.Cmp.{both_ways}
use Rattle.std.specs.Cmp.Lexicographic.{texts_ties}
use Rattle.std.specs.List.{list_any}
use Rattle.std.specs.List.Sorted.{IsPermutation}
use Rattle.std.specs.Ordering.{match_ordering}
use Rattle.sqlite.specs.declared.types.Value.{Value}
use Rattle.sqlite.specs.declared.types.Value.TheVariants.{Null, Int, Real, Text, Blob}
use Rattle.sqlite_value.specs.Order.{Row, column, value_cmp}
use Rattle.sqlite_value.proofs.OrderLemmas.{value_cmp_total, value_cmp-Int, value_cmp-Text, value_cmp-apart}
use Rattle.sqlite_trees.specs.Tree.{rowid, has_rowid, put_row, without_rowid}
use Rattle.sqlite_rules.specs.Edit.{without_all}
use Rattle.sqlite_rules.specs.Calls.{ids_of}
use Rattle.sqlite_rules.specs.Lists.{Has}
use Rattle.sqlite_rules.proofs.ListLemmas.{all_has, all_from, some_has, some_from, has_filtered, has_kept, has_contained, contains_had}
use Rattle.sqlite_rules.proofs.TableLemmas.{put_has}
use Rattle.txn_names.specs.Path.{label_eq}
use Rattle.txn_names.proofs.Exports.{same_label}
use Rattle.sql_store.specs.Laid.{put}
use Rattle.sql_store.specs.Table.{is_key, entry_of, id_of, map_of, AreApart}

-- ---- keys and rowids

-- the comparison of SQL tells a key
pub key_test : (k : List ℕ) (v : Value) → is_eq (value_cmp v (Text k)) ≡ is_key k v
key_test k Null = ap is_eq (value_cmp-apart Null (Text k) (λ e. absurd cc))
key_test k (Int n) = ap is_eq (value_cmp-apart (Int n) (Text k) (λ e. absurd cc))
key_test k (Real x) = ap is_eq (value_cmp-apart (Real x) (Text k) (λ e. absurd cc))
key_test k (Text t) = ap is_eq (value_cmp-Text t k) ∙ sym (texts_ties t k)
key_test k (Blob b) = ap is_eq (value_cmp-apart (Blob b) (Text k) (λ e. absurd cc))

-- a value is one key at most
other_key : (k q : List ℕ) (v : Value) → is_key k v ≡ true → label_eq k q ≡ false → is_key q v ≡ false
other_key k q Null e f = refl
other_key k q (Int n) e f = refl
other_key k q (Real x) e f = refl
other_key k q (Text t) e f = subst (λ (x : List ℕ). label_eq x q ≡ false) (sym (same_label t k e)) f
other_key k q (Blob b) e f = refl

no_key : (k q : List ℕ) (v : Value) → is_key k v ≡ false → label_eq k q ≡ true → is_key q v ≡ false
no_key k q v e f = subst (λ (x : List ℕ). is_key x v ≡ false) (same_label k q f) e

tied : (o : Ordering) → is_eq o ≡ true → o ≡ Equal
tied Less h = absurd (false≢true h)
tied Equal h = refl
tied Greater h = absurd (false≢true h)

pub own_id : (rows : List Row) (r : Row) → AreApart rows → Has rows r → column r 0 ≡ Int (id_of r)
own_id [] r h has = absurd has
own_id (x ∷ rows) r h (inl e) = subst (λ (y : Row). column y 0 ≡ Int (id_of y)) (sym e) h.0
own_id (x ∷ rows) r h (inr has) = own_id rows r h.2 has

-- rows with one rowid are one row
pub same_row : (rows : List Row) (a b : Row) → AreApart rows → Has rows a → Has rows b → id_of a ≡ id_of b → a ≡ b
same_row [] a b h has_a has_b e = absurd has_a
same_row (x ∷ rows) a b h (inl p) (inl q) e = p ∙ sym q
same_row (x ∷ rows) a b h (inl p) (inr q) e = absurd (all_has (λ y. id_of y ≢ id_of x) rows b h.1 q (sym e ∙ ap id_of p))
same_row (x ∷ rows) a b h (inr p) (inl q) e = absurd (all_has (λ y. id_of y ≢ id_of x) rows a h.1 p (e ∙ ap id_of q))
same_row (x ∷ rows) a b h (inr p) (inr q) e = same_row rows a b h.2 p q e

pub has_own : (r : Row) → column r 0 ≡ Int (id_of r) → has_rowid (id_of r) r ≡ true
has_own r e = subst (λ (v : Value). is_eq (value_cmp v (Int (id_of r))) ≡ true) (sym e) (ap is_eq (tied_itself value_cmp_total (Int (id_of r))))

pub ids_tied : (a b : ℤ) → is_eq (value_cmp (Int a) (Int b)) ≡ true → a ≡ b
ids_tied a b h = exact_signed a b (sym (value_cmp-Int a b) ∙ tied _ h)

pub id_found : (r : Row) (id : ℤ) → column r 0 ≡ Int (id_of r) → has_rowid id r ≡ true → id_of r ≡ id
id_found r id e h = ids_tied (id_of r) id (subst (λ (v : Value). is_eq (value_cmp v (Int id)) ≡ true) e h)

-- ---- lists

pub has_permuted : {X : Type 0} (xs ys : List X) (x : X) → IsPermutation xs ys → Has xs x → Has ys x
has_permuted xs ys x same has = has_contained ys x (Contains-permutation xs ys x same (contains_had xs x has))

pub has_mapped : {X Y : Type 0} (f : X → Y) (xs : List X) (y : Y) → Has (map f xs) y → (x : X) × Has xs x × (y ≡ f x)
has_mapped f [] y has = absurd has
has_mapped f (x ∷ xs) y (inl e) = (x, inl refl, e)
has_mapped f (x ∷ xs) y (inr has) = let it = has_mapped f xs y has in (it.0, inr it.1, it.2)

pub mapped_has : {X Y : Type 0} (f : X → Y) (xs : List X) (x : X) → Has xs x → Has (map f xs) (f x)
mapped_has f [] x has = absurd has
mapped_has f (z ∷ xs) x (inl e) = inl (ap f e)
mapped_has f (z ∷ xs) x (inr has) = inr (mapped_has f xs x has)

pub filter_same : (p q : Row → Bool) (rows : List Row) → ((r : Row) → Has rows r → p r ≡ q r) → filter p rows ≡ filter q rows
filter_same p q [] same = refl
filter_same p q (r ∷ rows) same =
    ap (λ b. cond b (r ∷ filter p rows) (filter p rows)) (same r (inl refl))
    ∙ ap (λ rs. cond (q r) (r ∷ rs) rs) (filter_same p q rows (λ x has. same x (inr has)))

filter_all : (rows : List Row) → rows ≡ filter (λ r. true) rows
filter_all [] = refl
filter_all (r ∷ rows) = ap (λ rs. r ∷ rs) (filter_all rows)

filter_two : (p q : Row → Bool) (rows : List Row) → filter (λ r. not (q r)) (filter (λ r. not (p r)) rows) ≡ filter (λ r. not (p r || q r)) rows
filter_two p q [] = refl
filter_two p q (r ∷ rows) = elim (cases_Bool (p r)) [
  | inl e ↦ rw e (filter_two p q rows)
  | inr e ↦ rw e (ap (λ rs. cond (not (q r)) (r ∷ rs) rs) (filter_two p q rows))
]

without_is : (ids : List ℤ) (rows : List Row) → without_all rows ids ≡ filter (λ r. not (list_any (λ id. has_rowid id r) ids)) rows
without_is [] rows = filter_all rows
without_is (id ∷ ids) rows = without_is ids (without_rowid id rows) ∙ filter_two (has_rowid id) (λ r. list_any (λ i. has_rowid i r) ids) rows

-- ---- rows are taken away

abbrev pub rows_with : List ℕ → List Row → List Row
rows_with k = filter (λ r. is_key k (column r 1))

abbrev pub rows_without : List ℕ → List Row → List Row
rows_without k = filter (λ r. not (is_key k (column r 1)))

-- the rowids that a query shows, each in a row of its own
abbrev pub shown_ids : List Row → List Row
shown_ids = map (λ r. column r 0 ∷ [])

goes : (k : List ℕ) (rows found : List Row) (r : Row) → AreApart rows → IsPermutation (shown_ids (rows_with k rows)) found → Has rows r
    → list_any (λ id. has_rowid id r) (ids_of found) ≡ is_key k (column r 1)
goes k rows found r apart same has = both_ways _ _ gone found_there
  where
    gone : list_any (λ id. has_rowid id r) (ids_of found) ≡ true → is_key k (column r 1) ≡ true
    gone some =
        let hit = some_has (λ id. has_rowid id r) (ids_of found) some in
        let shown = has_mapped (λ (x : Row). id_of x) found hit.0 hit.1 in
        let from = has_mapped (λ (x : Row). column x 0 ∷ []) (rows_with k rows) shown.0 (has_permuted found _ shown.0 (IsPermutation-sym _ found same) shown.1) in
        let kept = has_filtered (λ (x : Row). is_key k (column x 1)) rows from.0 from.1 in
        let id : hit.0 ≡ id_of from.0 = shown.2 ∙ ap id_of from.2 in
        let one = same_row rows r from.0 apart has kept.0 (id_found r hit.0 (own_id rows r apart has) hit.2 ∙ id) in
        subst (λ (x : Row). is_key k (column x 1) ≡ true) (sym one) kept.1

    found_there : is_key k (column r 1) ≡ true → list_any (λ id. has_rowid id r) (ids_of found) ≡ true
    found_there is =
        let row = has_permuted _ found _ same (mapped_has (λ (x : Row). column x 0 ∷ []) (rows_with k rows) r (has_kept (λ (x : Row). is_key k (column x 1)) rows r has is)) in
        some_from (λ id. has_rowid id r) (ids_of found) (id_of r) (mapped_has (λ (x : Row). id_of x) found _ row) (has_own r (own_id rows r apart has))

-- the rows of the key go, and no other
pub removed : (k : List ℕ) (rows found : List Row) → AreApart rows → IsPermutation (shown_ids (rows_with k rows)) found → without_all rows (ids_of found) ≡ rows_without k rows
removed k rows found apart same = without_is (ids_of found) rows ∙ filter_same _ _ rows (λ r has. ap not (goes k rows found r apart same has))

pub apart_kept : (p : Row → Bool) (rows : List Row) → AreApart rows → AreApart (filter p rows)
apart_kept p [] h = tt
apart_kept p (r ∷ rows) h = go (apart_kept p rows h.2) (p r)
  where
    go : AreApart (filter p rows) → (b : Bool) → AreApart (cond b (r ∷ filter p rows) (filter p rows))
    go more true = (h.0, all_from (λ q. id_of q ≢ id_of r) (filter p rows) (λ q has. all_has (λ q. id_of q ≢ id_of r) rows q h.1 (has_filtered p rows q has).0), more)
    go more false = more

past : {X : Type 0} (b c : Bool) (v x y : Option X) → (b ≡ false → c ≡ false) → cond b v y ≡ cond b v (cond c x y)
past true c v x y f = refl
past false c v x y f = ap (λ d. cond d x y) (sym (f refl))

swap : {X : Type 0} (b c : Bool) (v x y : Option X) → (b ≡ true → c ≡ false) → cond c x (cond b v y) ≡ cond b v (cond c x y)
swap true c v x y f = ap (λ d. cond d x v) (f refl)
swap false c v x y f = refl

nothing : {X : Type 0} (b : Bool) → ◌≡◌ {A = Option X} None (cond b None None)
nothing true = refl
nothing false = refl

map_without : (k : List ℕ) (rows : List Row) (q : List ℕ) → map_of (rows_without k rows) q ≡ put (map_of rows) k None q
map_without k [] q = nothing (label_eq k q)
map_without k (r ∷ rows) q = elim (cases_Bool (is_key k (column r 1))) [
  | inl e ↦ rw e (map_without k rows q ∙ past (label_eq k q) (is_key q (column r 1)) None (entry_of r) (map_of rows q) (other_key k q (column r 1) e))
  | inr e ↦ rw e (ap (cond (is_key q (column r 1)) (entry_of r)) (map_without k rows q)
      ∙ swap (label_eq k q) (is_key q (column r 1)) None (entry_of r) (map_of rows q) (no_key k q (column r 1) e))
]

pub map_removed : (k : List ℕ) (rows : List Row) → map_of (rows_without k rows) ≡ put (map_of rows) k None
map_removed k rows = λ i q. map_without k rows q i

-- ---- a row is put in

module _ (k : List ℕ) (v n : ℤ) (new : Row) (key : column new 1 ≡ Text k) (value : column new 2 ≡ Int v) (number : column new 3 ≡ Int n) where
  map_front : (rows : List Row) (q : List ℕ) → map_of (new ∷ rows) q ≡ put (map_of rows) k (Some (v, n)) q
  map_front rows q = rw (key, value, number)

  map_put : (rows : List Row) → ((r : Row) → Has rows r → is_key k (column r 1) ≡ false) → ((r : Row) → Has rows r → is_eq (value_cmp (rowid r) (rowid new)) ≡ false)
      → (q : List ℕ) → map_of (put_row new rows) q ≡ put (map_of rows) k (Some (v, n)) q
  map_put [] none fresh q = map_front [] q
  map_put (r ∷ rows) none fresh q = go (map_put rows (λ x has. none x (inr has)) (λ x has. fresh x (inr has)) q) (value_cmp (rowid r) (rowid new)) refl
    where
      go : map_of (put_row new rows) q ≡ put (map_of rows) k (Some (v, n)) q → (o : Ordering) → value_cmp (rowid r) (rowid new) ≡ o
          → map_of (match_ordering o (r ∷ put_row new rows) (new ∷ rows) (new ∷ r ∷ rows)) q ≡ put (map_of (r ∷ rows)) k (Some (v, n)) q
      go more Less e =
          ap (cond (is_key q (column r 1)) (entry_of r)) more
          ∙ swap (label_eq k q) (is_key q (column r 1)) (Some (v, n)) (entry_of r) (map_of rows q) (no_key k q (column r 1) (none r (inl refl)))
      go more Equal e = absurd (true≢false (sym (ap is_eq e) ∙ fresh r (inl refl)))
      go more Greater e = map_front (r ∷ rows) q

  pub map_added : (rows : List Row) → ((r : Row) → Has rows r → is_key k (column r 1) ≡ false) → ((r : Row) → Has rows r → is_eq (value_cmp (rowid r) (rowid new)) ≡ false)
      → map_of (put_row new rows) ≡ put (map_of rows) k (Some (v, n))
  map_added rows none fresh = λ i q. map_put rows none fresh q i

pub apart_put : (new : Row) (rows : List Row) → column new 0 ≡ Int (id_of new) → ((r : Row) → Has rows r → id_of r ≢ id_of new) → AreApart rows → AreApart (put_row new rows)
apart_put new [] own other h = (own, tt, tt)
apart_put new (r ∷ rows) own other h = go (apart_put new rows own (λ q has. other q (inr has)) h.2) (value_cmp (rowid r) (rowid new))
  where
    go : AreApart (put_row new rows) → (o : Ordering) → AreApart (match_ordering o (r ∷ put_row new rows) (new ∷ rows) (new ∷ r ∷ rows))
    go more Less = (
      h.0,
      all_from (λ q. id_of q ≢ id_of r) (put_row new rows) (λ q has. elim (put_has new rows q has) [
        | inl is ↦ λ e. other r (inl refl) (sym e ∙ ap id_of is)
        | inr was ↦ all_has (λ q. id_of q ≢ id_of r) rows q h.1 was
      ]),
      more,
    )
    go more Equal = (own, all_from (λ q. id_of q ≢ id_of new) rows (λ q has. other q (inr has)), h.2)
    go more Greater = (own, all_from (λ q. id_of q ≢ id_of new) (r ∷ rows) other, h)

-- ---- all rows go

without_none : (rows : List Row) (found : List Row) → ((r : Row) → Has rows r → list_any (λ id. has_rowid id r) (ids_of found) ≡ true) → filter (λ r. not (list_any (λ id. has_rowid id r) (ids_of found))) rows ≡ []
without_none [] found each = refl
without_none (r ∷ rows) found each = rw (each r (inl refl)) (without_none rows found (λ q has. each q (inr has)))

pub all_removed : (rows found : List Row) → AreApart rows → IsPermutation (shown_ids rows) found → without_all rows (ids_of found) ≡ []
all_removed rows found apart same =
    without_is (ids_of found) rows ∙ without_none rows found (λ r has.
    let row = has_permuted _ found _ same (mapped_has (λ (x : Row). column x 0 ∷ []) rows r has) in
    some_from (λ id. has_rowid id r) (ids_of found) (id_of r) (mapped_has (λ (x : Row). id_of x) found _ row) (has_own r (own_id rows r apart has)))
