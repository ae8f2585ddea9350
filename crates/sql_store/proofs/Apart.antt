-- Rowids that rise are apart, in whatever order the table has them.
use Rattle.std.proofs.Common.{◌≡◌, ◌≢◌, ℤ, Bool, true, false, cond, List, [], ◌∷◌, map, Option, Some, None, is_some, Ordering, Less, Equal, Greater, inl, inr, refl, sym, ap, subst, ◌∙◌, is_eq, is_lt, int_cmp, true≢false}
use Rattle.std.proofs.lemmas.Bool.{and_parts, false≢true}
use Rattle.std.proofs.lemmas.Cmp.{tied_itself, int_cmp_total}
use Rattle.std.proofs.lemmas.Map.Keys.{IsDistinct-IsPermutation}
use Rattle.std.proofs.lemmas.List.Sorted.{IsPermutation-sym, IsPermutation-map}
use Rattle.std.specs.Ordering.{ordering_reverse}
use Rattle.std.specs.List.{AllByRecursion, IsDistinct}
use Rattle.std.specs.List.Sorted.{IsPermutation}
use Rattle.sqlite.specs.declared.types.Value.{Value}
use Rattle.sqlite.specs.declared.types.Value.TheVariants.{Null, Int, Real, Text, Blob}
use Rattle.sqlite.specs.Order.{Row, column}
use Rattle.sqlite_rules.specs.Edit.{id_in}
use Rattle.sqlite_rules.specs.Lists.{Has}
use Rattle.sqlite_rules.proofs.ListLemmas.{all_has, all_from}
use Rattle.sql_store.specs.Ids.{is_past, next_id, rises}
use Rattle.sql_store.specs.Table.{int_in, id_of, AreApart}
use Rattle.sql_store.proofs.Tables.{has_permuted, mapped_has, shown_ids}

less_from : (o : Ordering) → is_lt o ≡ true → o ≡ Less
less_from Less e = refl
less_from Equal e = absurd (false≢true e)
less_from Greater e = absurd (false≢true e)

abbrev same_id : ℤ → ℤ → Bool
same_id a b = is_eq (int_cmp a b)

flips : (a b : ℤ) → same_id a b ≡ same_id b a
flips a b = ap is_eq (int_cmp_total.antisymm a b) ∙ turned (int_cmp b a)
  where
    turned : (o : Ordering) → is_eq (ordering_reverse o) ≡ is_eq o
    turned Less = refl
    turned Equal = refl
    turned Greater = refl

-- what one row tells that is not refused
took : (low : Option ℤ) (v : Value) → is_some (next_id low (int_in v)) ≡ true → (v ≡ Int (id_in v)) × (next_id low (int_in v) ≡ Some (id_in v)) × (is_past low (id_in v) ≡ true)
took low Null e = absurd (false≢true e)
took low (Int n) e = go (is_past low n) e
  where
    go : (b : Bool) → is_some (cond b (Some n) None) ≡ true → (◌≡◌ {A = Value} (Int n) (Int n)) × (cond b (Some n) None ≡ Some n) × (b ≡ true)
    go true e = (refl, refl, refl)
    go false e = absurd (false≢true e)
took low (Real x) e = absurd (false≢true e)
took low (Text t) e = absurd (false≢true e)
took low (Blob b) e = absurd (false≢true e)

above : (n : ℤ) (rows : List Row) → rises (Some n) rows ≡ true → AllByRecursion (λ q. int_cmp n (id_of q) ≡ Less) rows
above n [] e = tt
above n (r ∷ rows) e =
    let parts = and_parts _ _ e in
    let it = took (Some n) (column r 0) parts.0 in
    let less : int_cmp n (id_of r) ≡ Less = less_from _ it.2 in
    let more = above (id_of r) rows (subst (λ (o : Option ℤ). rises o rows ≡ true) it.1 parts.1) in
    (less, all_from (λ q. int_cmp n (id_of q) ≡ Less) rows (λ q has. int_cmp_total.trans n (id_of r) (id_of q) less (all_has (λ q. int_cmp (id_of r) (id_of q) ≡ Less) rows q more has)))

ids_differ : (a : ℤ) (rows : List Row) → AllByRecursion (λ q. int_cmp a (id_of q) ≡ Less) rows → AllByRecursion (λ y. same_id a y ≡ false) (map id_of rows)
ids_differ a [] h = tt
ids_differ a (q ∷ rows) h = (ap is_eq h.0, ids_differ a rows h.1)

distinct : (low : Option ℤ) (rows : List Row) → rises low rows ≡ true → IsDistinct same_id (map id_of rows)
unfolding IsDistinct
distinct low [] e = tt
distinct low (r ∷ rows) e =
    let parts = and_parts _ _ e in
    let it = took low (column r 0) parts.0 in
    let rest : rises (Some (id_of r)) rows ≡ true = subst (λ (o : Option ℤ). rises o rows ≡ true) it.1 parts.1 in
    (ids_differ (id_of r) rows (above (id_of r) rows rest), distinct (Some (id_of r)) rows rest)

whole : (low : Option ℤ) (rows : List Row) → rises low rows ≡ true → (r : Row) → Has rows r → column r 0 ≡ Int (id_of r)
whole low [] e r has = absurd has
whole low (x ∷ rows) e r (inl is) = subst (λ (y : Row). column y 0 ≡ Int (id_of y)) (sym is) (took low (column x 0) (and_parts _ _ e).0).0
whole low (x ∷ rows) e r (inr has) = whole (next_id low (int_in (column x 0))) rows (and_parts _ _ e).1 r has

rows_differ : (a : ℤ) (rows : List Row) → AllByRecursion (λ y. same_id a y ≡ false) (map id_of rows) → AllByRecursion (λ q. id_of q ≢ a) rows
rows_differ a [] h = tt
rows_differ a (q ∷ rows) h = (λ e. true≢false (sym (ap is_eq (tied_itself int_cmp_total a)) ∙ subst (λ n. same_id a n ≡ false) e h.0), rows_differ a rows h.1)

from_ids : (rows : List Row) → ((r : Row) → Has rows r → column r 0 ≡ Int (id_of r)) → IsDistinct same_id (map id_of rows) → AreApart rows
unfolding IsDistinct
from_ids [] each d = tt
from_ids (r ∷ rows) each d = (each r (inl refl), rows_differ (id_of r) rows d.0, from_ids rows (λ q has. each q (inr has)) d.1)

ids_shown : (rows : List Row) → map id_of (shown_ids rows) ≡ map id_of rows
ids_shown [] = refl
ids_shown (r ∷ rows) = ap (λ ids. id_of r ∷ ids) (ids_shown rows)

pub apart_by : (tree rows : List Row) → IsPermutation (shown_ids tree) rows → rises None rows ≡ true → AreApart tree
apart_by tree rows same e =
    let back : IsPermutation (map id_of rows) (map id_of (shown_ids tree)) = IsPermutation-map id_of rows (shown_ids tree) (IsPermutation-sym (shown_ids tree) rows same) in
    from_ids tree
    (λ r has. whole None rows e (column r 0 ∷ []) (has_permuted (shown_ids tree) rows (column r 0 ∷ []) same (mapped_has (λ (x : Row). column x 0 ∷ []) tree r has)))
    (subst (IsDistinct same_id) (ids_shown tree) (IsDistinct-IsPermutation same_id flips (map id_of rows) (map id_of (shown_ids tree)) back (distinct None rows e)))
