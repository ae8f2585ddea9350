-- From the place that a search finds to what a write does there, and what undoes it.
use Rattle.std.proofs.Common.{◌≡◌, ℕ, ℤ, zero, suc, ◌<◌, ◌≤◌, Bool, true, false, not, List, [], ◌∷◌, filter, length, get_or, set, refl, sym, ap, ◌∙◌, arith, Ordering, Less, Equal, Greater, is_lt, is_eq, true≢false}
use Rattle.std.specs.List.{AllByRecursion, insert, remove}
use Rattle.std.proofs.lemmas.Cmp.{alike_right}
use Rattle.sqlite_value.specs.declared.value.Value.{Value}
use Rattle.sqlite_value.specs.declared.value.Value.TheVariants.{Int}
use Rattle.sqlite_value.specs.declared.keys.Order.{Order}
use Rattle.sqlite_value.specs.Order.{Row, value_cmp}
use Rattle.sqlite_value.specs.Keys.{entry_cmp}
use Rattle.sqlite_value.proofs.KeyLemmas.{entry_cmp_total}
use Rattle.sqlite_value.proofs.OrderLemmas.{value_cmp_total}
use Rattle.sqlite_trees.specs.Tree.{rowid, IsTable, IsIndex, has_rowid, without_rowid, remove_entry}
use Rattle.sqlite_trees.specs.Probe.{IsPlaceOf}
use Rattle.sqlite_trees.proofs.ListLemmas.{all_weaker, ascending-get_or, filter_all}
use Rattle.sqlite_trees.proofs.MemoryLemmas.{cut_below_rowid, fails_after}
use Rattle.sqlite_trees.proofs.TreeLemmas.{later_rowids}

pub remove-insert : {X : Type 0} (xs : List X) (i : ℕ) (x : X) → i ≤ length xs → remove (insert xs i x) i ≡ xs
remove-insert [] zero x h = refl
remove-insert [] (suc i) x h = absurd (omega arith)
remove-insert (y ∷ xs) zero x h = refl
remove-insert (y ∷ xs) (suc i) x h = ap (λ l. y ∷ l) (remove-insert xs i x (omega arith))

pub insert-remove : {X : Type 0} (xs : List X) (i : ℕ) (d : X) → i < length xs → insert (remove xs i) i (get_or xs i d) ≡ xs
insert-remove [] i d h = absurd (omega arith)
insert-remove (y ∷ xs) zero d h = refl
insert-remove (y ∷ xs) (suc i) d h = ap (λ l. y ∷ l) (insert-remove xs i d (omega arith))

-- the place of what is removed is within the rest, or behind it
pub place_left : {X : Type 0} (xs : List X) (i : ℕ) → i < length xs → i ≤ length (remove xs i)
place_left [] i h = absurd (omega arith)
place_left (y ∷ xs) zero h = omega arith
place_left (y ∷ xs) (suc i) h = let e = place_left xs i (omega arith) in omega (arith, e)

pub set-back : {X : Type 0} (xs : List X) (i : ℕ) (x was : X) → i < length xs → was ≡ get_or xs i was → set (set xs i x) i was ≡ xs
set-back [] i x was h is = absurd (omega arith)
set-back (y ∷ xs) zero x was h is = ap (λ w. w ∷ xs) is
set-back (y ∷ xs) (suc i) x was h is = ap (λ l. y ∷ l) (set-back xs i x was (omega arith) is)

less : (o : Ordering) → is_lt o ≡ true → o ≡ Less
less Less h = refl
less Equal h = absurd (true≢false (sym h))
less Greater h = absurd (true≢false (sym h))

tail_place : (test : Row → Bool) (x : Row) (rows : List Row) (at : ℕ) → IsPlaceOf test (x ∷ rows) (suc at) → IsPlaceOf test rows at
tail_place test x rows at place = record {
  within = omega (arith, place.within);
  before = λ k h. place.before (suc k) (omega arith);
  after = λ k h q. place.after (suc k) (omega arith) (omega arith);
}

-- what is above an entry that is not below another is not alike to that
later_entries : (o : Order) (e x : Row) (rows : List Row) → is_lt (entry_cmp o x e) ≡ false → AllByRecursion (λ r. entry_cmp o x r ≡ Less) rows
    → AllByRecursion (λ r. is_eq (entry_cmp o r e) ≡ false) rows
later_entries o e x rows h = all_weaker _ (λ r. is_eq (entry_cmp o r e) ≡ false) (λ r below. go r below (entry_cmp o r e) refl) rows
  where
    go : (r : Row) → entry_cmp o x r ≡ Less → (c : Ordering) → entry_cmp o r e ≡ c → is_eq c ≡ false
    go r below Less is = refl
    go r below Greater is = refl
    go r below Equal is = absurd (true≢false (sym (ap is_lt (sym (alike_right (entry_cmp_total o) r e x is) ∙ below)) ∙ h))

tied : (o : Ordering) → is_eq o ≡ true → o ≡ Equal
tied Less h = absurd (true≢false (sym h))
tied Equal h = refl
tied Greater h = absurd (true≢false (sym h))

-- rowids rise, so that the row that has one stands at its place
pub rowid_place : (v : Value) (rows : List Row) (at : ℕ) → IsTable rows → at < length rows → is_eq (value_cmp (rowid (get_or rows at [])) v) ≡ true
    → IsPlaceOf (λ r. is_lt (value_cmp (rowid r) v)) rows at
rowid_place v rows at table within same =
    let tie = tied (value_cmp (rowid (get_or rows at [])) v) same in
    record {
      within = omega (arith, within);
      before = λ k h. ap is_lt (sym (alike_right value_cmp_total (rowid (get_or rows at [])) v (rowid (get_or rows k [])) tie) ∙ ascending-get_or _ rows k at [] table h within);
      after = λ k h q. fails_after (λ r. is_lt (value_cmp (rowid r) v)) rows at (cut_below_rowid v rows table) (ap is_lt tie) k h q;
    }

module _ (id : ℤ) where
  abbrev IsIdPlace : List Row → ℕ → Type 0
  IsIdPlace = IsPlaceOf (λ e. is_lt (value_cmp (rowid e) (Int id)))

  all_other : (x : Row) (rows : List Row) (at : ℕ) → IsTable (x ∷ rows) → IsIdPlace (x ∷ rows) zero → filter (λ r. not (has_rowid id r)) rows ≡ rows
  all_other x rows at table place =
      filter_all (λ r. not (has_rowid id r)) rows (all_weaker _ (λ r. not (has_rowid id r) ≡ true) (λ r h. ap not h) rows
      (later_rowids (Int id) x rows (place.after 0 (omega arith) (omega arith)) table.0))

  pub remove-without_rowid : (rows : List Row) (at : ℕ) → IsTable rows → IsIdPlace rows at → at < length rows → has_rowid id (get_or rows at []) ≡ true → remove rows at ≡ without_rowid id rows
  remove-without_rowid [] at table place within same = absurd (omega arith)
  remove-without_rowid (x ∷ rows) zero table place within same = rw (same, all_other x rows 0 table place)
  remove-without_rowid (x ∷ rows) (suc at) table place within same =
      rw (less _ (place.before 0 (omega arith))) (ap (λ l. x ∷ l) (remove-without_rowid rows at table.1 (tail_place _ x rows at place) (omega arith) same))

  pub kept-without_rowid : (rows : List Row) (at : ℕ) → IsTable rows → IsIdPlace rows at → (at < length rows → has_rowid id (get_or rows at []) ≡ false) → rows ≡ without_rowid id rows
  kept-without_rowid [] at table place other = refl
  kept-without_rowid (x ∷ rows) zero table place other = rw (other (omega arith), all_other x rows 0 table place)
  kept-without_rowid (x ∷ rows) (suc at) table place other =
      rw (less _ (place.before 0 (omega arith))) (ap (λ l. x ∷ l) (kept-without_rowid rows at table.1 (tail_place _ x rows at place) (λ h. other (omega arith))))

module _ (o : Order) (old : Row) where
  abbrev IsEntryPlace : List Row → ℕ → Type 0
  IsEntryPlace = IsPlaceOf (λ e. is_lt (entry_cmp o e old))

  all_unlike : (x : Row) (rows : List Row) → IsIndex o (x ∷ rows) → IsEntryPlace (x ∷ rows) zero → filter (λ e. not (is_eq (entry_cmp o e old))) rows ≡ rows
  all_unlike x rows up place =
      filter_all (λ e. not (is_eq (entry_cmp o e old))) rows (all_weaker _ (λ e. not (is_eq (entry_cmp o e old)) ≡ true) (λ r h. ap not h) rows
      (later_entries o old x rows (place.after 0 (omega arith) (omega arith)) up.0))

  pub remove-remove_entry : (rows : List Row) (at : ℕ) → IsIndex o rows → IsEntryPlace rows at → at < length rows → is_eq (entry_cmp o (get_or rows at []) old) ≡ true → remove rows at ≡ remove_entry o old rows
  remove-remove_entry [] at up place within same = absurd (omega arith)
  remove-remove_entry (x ∷ rows) zero up place within same = rw (same, all_unlike x rows up place)
  remove-remove_entry (x ∷ rows) (suc at) up place within same =
      rw (less _ (place.before 0 (omega arith))) (ap (λ l. x ∷ l) (remove-remove_entry rows at up.1 (tail_place _ x rows at place) (omega arith) same))

  pub kept-remove_entry : (rows : List Row) (at : ℕ) → IsIndex o rows → IsEntryPlace rows at → (at < length rows → is_eq (entry_cmp o (get_or rows at []) old) ≡ false) → rows ≡ remove_entry o old rows
  kept-remove_entry [] at up place other = refl
  kept-remove_entry (x ∷ rows) zero up place other = rw (other (omega arith), all_unlike x rows up place)
  kept-remove_entry (x ∷ rows) (suc at) up place other =
      rw (less _ (place.before 0 (omega arith))) (ap (λ l. x ∷ l) (kept-remove_entry rows at up.1 (tail_place _ x rows at place) (λ h. other (omega arith))))
