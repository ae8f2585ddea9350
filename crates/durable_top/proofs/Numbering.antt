-- Numbered tables: their values, their numbers, and their rows.
use Rattle.std.proofs.Common.{is_some, ◌≡◌, inl, inr, ℕ, ◌+◌, ℤ, pos, ◌+ℤ◌, ◌≤ℤ◌, ◌<ℤ◌, Bool, true, false, cond, List, [], ◌∷◌, ◌++◌, length, take, map, Option, Some, None, IfSome, refl, sym, ap, subst, ◌∙◌, arith}
use Rattle.std.proofs.lemmas.Int.{ints}
use Rattle.std.proofs.lemmas.List.{take_more, map-append}
use Rattle.std.proofs.lemmas.Option.{get_or_from_slice_get, slice_get_within}
use Rattle.std.specs.Cmp.Lexicographic.{slice_cmp}
use Rattle.std.specs.declared.cmp.Ordering.TheVariants.{Less}
use Rattle.std.specs.List.{slice_get}
use Rattle.std.specs.Option.{option_map}
use Rattle.std.specs.Ordering.{nat_cmp}
use Rattle.txn_names.specs.Path.{label_eq}
use Rattle.txn_names.proofs.Exports.{label_eq_self, same_label}
use Rattle.txn_names.specs.declared.change.Change.{Change}
use Rattle.serial_spec.specs.Changes.{change_at, overlay}
use Rattle.serial_spec.specs.Rows.{Rows, value_in, IsRising}
use Rattle.serial_spec.specs.Serial.{Map}
use Rattle.serial_spec.specs.Values.{value_or}
use Rattle.durable_top.specs.declared.store.Row.{Row}
use Rattle.durable_top.specs.Store.{plain}
use Rattle.durable_top.specs.Numbered.{Numbered, values_of, numbers_of, entry_or, overlay_numbered, IsGreatest, Commits, IsFull, last_number, entries_in, AreNumbered}
use Rattle.durable_top.specs.Numbers.{Has, number_or, renumbered, IsTopIn, IsTopOf, numbers_in}
use Rattle.durable_top.specs.Joined.{joined, number_else_0, HaveSameKeys}
use Rattle.durable_top.proofs.Greatest.{all_has, has_mapped, unequal, top_by}

-- ---- a table has one greatest number

pub one_greatest : (m : Numbered) (a b : ℤ) → IsGreatest m a → IsGreatest m b → a ≡ b
one_greatest m a b p q =
    let up = reaches m a b p q in
    let down = reaches m b a q p in
    omega (arith, ints)
  where
    reaches : (m : Numbered) (a b : ℤ) → IsGreatest m a → IsGreatest m b → a ≤ℤ b
    reaches m a b p q = elim p.met [
      | inl nil ↦ let least = q.least in omega (arith, ints)
      | inr it ↦ (subst (λ o. IfSome o (λ e. (pos 0 ≤ℤ e.1) × (e.1 ≤ℤ b))) it.2 (q.bounds it.0)).1
    ]

-- the greatest of the numbers is that of the table
pub greatest_from : (m : Numbered) (top : ℤ) → IsTopIn (numbers_of m) top → IsGreatest m top
greatest_from m top h = record {
  least = h.least;
  bounds = λ k. below (m k) (h.bounds k);
  met = elim h.met [ inl nil ↦ inl nil | inr it ↦ let found = entry (m it.0) it.1 in inr (it.0, found.0, found.1) ];
}
  where
    below : (e : Option (ℤ × ℤ)) → IfSome (option_map (λ e. e.1) e) (λ n. (pos 0 ≤ℤ n) × (n ≤ℤ top)) → IfSome e (λ e. (pos 0 ≤ℤ e.1) × (e.1 ≤ℤ top))
    below None b = tt
    below (Some e) b = b

    entry : (e : Option (ℤ × ℤ)) → option_map (λ e. e.1) e ≡ Some top → (v : ℤ) × (e ≡ Some (v, top))
    entry None is = absurd cc
    entry (Some (v, n)) is = let same : n ≡ top = cc in (v, ap (λ q. Some (v, q)) same)

-- ---- values and numbers apart

pub values_after : (n : ℤ) (cs : List Change) (m : Numbered) → values_of (overlay_numbered n cs m) ≡ overlay cs (values_of m)
values_after n cs m =
    let each : (k : List ℕ) → values_of (overlay_numbered n cs m) k ≡ overlay cs (values_of m) k = λ k. go (change_at cs k) (m k) in
    λ i k. each k i
  where
    go : (x : Option (Option ℤ)) (e : Option (ℤ × ℤ)) → option_map (λ e. e.0) (entry_or n x e) ≡ value_or x (option_map (λ e. e.0) e)
    go None e = refl
    go (Some None) e = refl
    go (Some (Some v)) e = refl

pub numbers_after : (n : ℤ) (cs : List Change) (m : Numbered) → numbers_of (overlay_numbered n cs m) ≡ renumbered n cs (numbers_of m)
numbers_after n cs m =
    let each : (k : List ℕ) → numbers_of (overlay_numbered n cs m) k ≡ renumbered n cs (numbers_of m) k = λ k. go (change_at cs k) (m k) in
    λ i k. each k i
  where
    go : (x : Option (Option ℤ)) (e : Option (ℤ × ℤ)) → option_map (λ e. e.1) (entry_or n x e) ≡ number_or n x (option_map (λ e. e.1) e)
    go None e = refl
    go (Some None) e = refl
    go (Some (Some v)) e = refl

-- a commit of a numbered table is one of its values
pub values_committed : (cs : List Change) (old new : Numbered) → Commits cs old new → values_of new ≡ overlay cs (values_of old)
values_committed cs old new (inl none) =
    ap values_of none.1 ∙ sym (ap (λ (ds : List Change). overlay ds (values_of old)) none.0)
values_committed cs old new (inr follows) = ap values_of follows.is ∙ values_after _ cs old

-- ---- rows

pub values_in_rows : (rows : List Row) → values_of (entries_in rows) ≡ value_in (plain rows)
values_in_rows rows =
    let each : (k : List ℕ) → values_of (entries_in rows) k ≡ value_in (plain rows) k = λ k. go rows k in
    λ i k. each k i
  where
    chosen : (b : Bool) (r : Row) (e : Option (ℤ × ℤ)) → option_map (λ e. e.0) (cond b (Some (r.value, r.commit)) e) ≡ cond b (Some r.value) (option_map (λ e. e.0) e)
    chosen true r e = refl
    chosen false r e = refl

    go : (rows : List Row) (k : List ℕ) → values_of (entries_in rows) k ≡ value_in (plain rows) k
    go [] k = refl
    go (r ∷ rows) k = chosen (label_eq r.key k) r (entries_in rows k) ∙ ap (λ x. cond (label_eq r.key k) (Some r.value) x) (go rows k)

pub numbers_in_rows : (rows : List Row) → value_in (numbers_in rows) ≡ numbers_of (entries_in rows)
numbers_in_rows rows =
    let each : (k : List ℕ) → value_in (numbers_in rows) k ≡ numbers_of (entries_in rows) k = λ k. go rows k in
    λ i k. each k i
  where
    chosen : (b : Bool) (r : Row) (e : Option (ℤ × ℤ)) → cond b (Some r.commit) (option_map (λ e. e.1) e) ≡ option_map (λ e. e.1) (cond b (Some (r.value, r.commit)) e)
    chosen true r e = refl
    chosen false r e = refl

    go : (rows : List Row) (k : List ℕ) → value_in (numbers_in rows) k ≡ numbers_of (entries_in rows) k
    go [] k = refl
    go (r ∷ rows) k = ap (λ x. cond (label_eq r.key k) (Some r.commit) x) (go rows k) ∙ chosen (label_eq r.key k) r (entries_in rows k)

-- no key has a number below 0
pub entries_from_0 : (rows : List Row) → AreNumbered rows → (k : List ℕ) → IfSome (numbers_of (entries_in rows) k) (λ n. pos 0 ≤ℤ n)
entries_from_0 [] least k = tt
entries_from_0 (r ∷ rows) least k = go (label_eq r.key k) (entries_from_0 rows least.1 k)
  where
    go : (b : Bool) → IfSome (numbers_of (entries_in rows) k) (λ n. pos 0 ≤ℤ n)
        → IfSome (option_map (λ e. e.1) (cond b (Some (r.value, r.commit)) (entries_in rows k))) (λ n. pos 0 ≤ℤ n)
    go true more = least.0
    go false more = more

-- the greatest number of these rows' numbers, from those of a table
pub top_of_rows : (rows : List Row) (numbers : Rows) (top : ℤ) → AreNumbered rows → value_in numbers ≡ value_in (numbers_in rows)
    → IsTopOf numbers top → IsTopIn (value_in numbers) top
top_of_rows rows numbers top least is h =
    top_by numbers top (λ k. subst (λ (m : Map). IfSome (m k) (λ n. pos 0 ≤ℤ n)) (sym (is ∙ numbers_in_rows rows)) (entries_from_0 rows least k)) h

-- where keys rise, each row is found by its key
entry_found : (rows : List Row) (r : Row) → IsRising (plain rows) → Has rows r → entries_in rows r.key ≡ Some (r.value, r.commit)
entry_found [] r rising has = absurd has
entry_found (x ∷ rows) r rising (inl e) =
    subst (λ (q : Row). entries_in (x ∷ rows) q.key ≡ Some (q.value, q.commit)) (sym e)
    (ap (λ b. cond b (Some (x.value, x.commit)) (entries_in rows x.key)) (label_eq_self x.key))
entry_found (x ∷ rows) r rising (inr has) =
    let in_plain = has_mapped (λ (q : Row). (q.key, q.value)) rows r has in
    let in_keys = has_mapped (λ (q : List ℕ × ℤ). q.0) (plain rows) (r.key, r.value) in_plain in
    let less = all_has (λ q. slice_cmp nat_cmp x.key q ≡ Less) (map (λ q. q.0) (plain rows)) r.key rising.0 in_keys in
    ap (λ b. cond b (Some (x.value, x.commit)) (entries_in rows r.key)) (unequal x.key r.key less) ∙ entry_found rows r rising.1 has

-- ---- values and numbers joined

abbrev row_of : List ℕ → ℤ → ℤ → Row
row_of k v n = record { key = k; value = v; commit = n }

pub plain_joined : (values : Rows) (numbers : Map) → plain (joined values numbers) ≡ values
plain_joined [] numbers = refl
plain_joined (r ∷ values) numbers = ap (λ rs. r ∷ rs) (plain_joined values numbers)

pub joined_rising : (values : Rows) (numbers : Map) → IsRising values → IsRising (plain (joined values numbers))
joined_rising values numbers rising = subst IsRising (sym (plain_joined values numbers)) rising

-- rows are joined of their values and their numbers
pub joined_plain : (rows : List Row) (numbers : Map) → ((r : Row) → Has rows r → numbers r.key ≡ Some r.commit) → joined (plain rows) numbers ≡ rows
joined_plain [] numbers each = refl
joined_plain (r ∷ rows) numbers each =
    ap (λ n. row_of r.key r.value (number_else_0 n) ∷ joined (plain rows) numbers) (each r (inl refl))
    ∙ ap (λ rs. r ∷ rs) (joined_plain rows numbers (λ q has. each q (inr has)))

-- no rows come of no values alone
pub none_joined : (values : Rows) (numbers : Map) → joined values numbers ≡ [] → values ≡ []
none_joined [] numbers none = refl
none_joined (v ∷ values) numbers none =
    absurd (omega (arith, ap (λ (rs : List Row). length rs) none))

pub joined_rows : (rows : List Row) → IsRising (plain rows) → joined (plain rows) (numbers_of (entries_in rows)) ≡ rows
joined_rows rows rising = joined_plain rows (numbers_of (entries_in rows)) (λ r has. ap (option_map (λ e. e.1)) (entry_found rows r rising has))

pub same_keys : (m : Numbered) → HaveSameKeys (values_of m) (numbers_of m)
same_keys m k = go (m k)
  where
    go : (e : Option (ℤ × ℤ)) → is_some (option_map (λ e. e.0) e) ≡ is_some (option_map (λ e. e.1) e)
    go None = refl
    go (Some e) = refl

pub same_keys_after : (n : ℤ) (cs : List Change) (values numbers : Map) → HaveSameKeys values numbers → HaveSameKeys (overlay cs values) (renumbered n cs numbers)
same_keys_after n cs values numbers same k = go (change_at cs k) (values k) (numbers k) (same k)
  where
    go : (x : Option (Option ℤ)) (v q : Option ℤ) → is_some v ≡ is_some q → is_some (value_or x v) ≡ is_some (number_or n x q)
    go None v q e = e
    go (Some None) v q e = refl
    go (Some (Some w)) v q e = refl

abbrev both : Option ℤ → Option ℤ → Option (ℤ × ℤ)
both v n = option_map (λ w. (w, number_else_0 n)) v

-- what each key has
entry_joined : (values : Rows) (numbers : Map) (k : List ℕ) → entries_in (joined values numbers) k ≡ both (value_in values k) (numbers k)
entry_joined [] numbers k = refl
entry_joined (r ∷ values) numbers k =
    ap (λ x. cond (label_eq r.0 k) (Some (r.1, number_else_0 (numbers r.0))) x) (entry_joined values numbers k)
    ∙ go (label_eq r.0 k) refl
  where
    go : (b : Bool) → label_eq r.0 k ≡ b → cond b (Some (r.1, number_else_0 (numbers r.0))) (both (value_in values k) (numbers k)) ≡ both (cond b (Some r.1) (value_in values k)) (numbers k)
    go true e = ap (λ q. Some (r.1, number_else_0 (numbers q))) (same_label r.0 k e)
    go false e = refl

pub numbers_joined : (values : Rows) (numbers : Map) → HaveSameKeys (value_in values) numbers → numbers_of (entries_in (joined values numbers)) ≡ numbers
numbers_joined values numbers same =
    let each : (k : List ℕ) → numbers_of (entries_in (joined values numbers)) k ≡ numbers k = λ k.
    ap (option_map (λ e. e.1)) (entry_joined values numbers k) ∙ go (value_in values k) (numbers k) (same k) in
    λ i k. each k i
  where
    go : (v n : Option ℤ) → is_some v ≡ is_some n → option_map (λ e. e.1) (both v n) ≡ n
    go None None e = refl
    go None (Some n) e = absurd cc
    go (Some v) None e = absurd cc
    go (Some v) (Some n) e = refl

-- changes of both are one of the table
pub overlay_joined : (n : ℤ) (cs : List Change) (values new_values : Rows) (numbers new_numbers : Map)
    → value_in new_values ≡ overlay cs (value_in values) → new_numbers ≡ renumbered n cs numbers
    → entries_in (joined new_values new_numbers) ≡ overlay_numbered n cs (entries_in (joined values numbers))
overlay_joined n cs values new_values numbers new_numbers is_values is_numbers =
    let each : (k : List ℕ) → entries_in (joined new_values new_numbers) k ≡ overlay_numbered n cs (entries_in (joined values numbers)) k = λ k.
    entry_joined new_values new_numbers k
    ∙ ap (λ (m : Map). both (m k) (new_numbers k)) is_values
    ∙ ap (λ (m : Map). both (overlay cs (value_in values) k) (m k)) is_numbers
    ∙ go (change_at cs k) (value_in values k) (numbers k)
    ∙ ap (λ e. entry_or n (change_at cs k) e) (sym (entry_joined values numbers k)) in
    λ i k. each k i
  where
    go : (x : Option (Option ℤ)) (v q : Option ℤ) → both (value_or x v) (number_or n x q) ≡ entry_or n x (both v q)
    go None v q = refl
    go (Some None) v q = refl
    go (Some (Some w)) v q = refl

-- one more row, from the first on
pub joined_more : (values : Rows) (numbers : Map) (rows : List Row) (i : ℕ) (k : List ℕ) (v n : ℤ)
    → rows ≡ joined (take i values) numbers → slice_get values i ≡ Some (k, v) → n ≡ number_else_0 (numbers k)
    → rows ++ row_of k v n ∷ [] ≡ joined (take (i + 1) values) numbers
joined_more values numbers rows i k v n is at number =
    let row : List ℕ × ℤ → Row = λ r. record { key = r.0; value = r.1; commit = number_else_0 (numbers r.0) } in
    let next : take (i + 1) values ≡ take i values ++ (k, v) ∷ [] =
    take_more values i (k, v) (slice_get_within values i (k, v) at) ∙ ap (λ x. take i values ++ x ∷ []) (get_or_from_slice_get values i (k, v) (k, v) at) in
    ap (λ rs. rs ++ row_of k v n ∷ []) is
    ∙ ap (λ m. joined (take i values) numbers ++ row_of k v m ∷ []) number
    ∙ sym (ap (λ rs. joined rs numbers) next ∙ map-append row (take i values) ((k, v) ∷ []))

-- no number below 0
pub joined_numbered : (values : Rows) (numbers : Map) (top : ℤ) → IsTopIn numbers top → AreNumbered (joined values numbers)
joined_numbered [] numbers top h = tt
joined_numbered (r ∷ values) numbers top h = (go (numbers r.0) (h.bounds r.0), joined_numbered values numbers top h)
  where
    go : (o : Option ℤ) → IfSome o (λ n. (pos 0 ≤ℤ n) × (n ≤ℤ top)) → pos 0 ≤ℤ number_else_0 o
    go None b = omega (arith, ints)
    go (Some n) b = b.0

-- ---- commits of values and numbers

pub above_top : (n top : ℤ) → n ≡ top +ℤ pos 1 → top <ℤ n
above_top n top next = omega (arith, ints)

pub greatest_joined : (values : Rows) (numbers : Map) (top : ℤ) → HaveSameKeys (value_in values) numbers → IsTopIn numbers top
    → IsGreatest (entries_in (joined values numbers)) top
greatest_joined values numbers top same h =
    greatest_from (entries_in (joined values numbers)) top (subst (λ (m : Map). IsTopIn m top) (sym (numbers_joined values numbers same)) h)

pub commits_joined : (n top : ℤ) (cs : List Change) (values new_values : Rows) (numbers new_numbers : Map)
    → HaveSameKeys (value_in values) numbers → IsTopIn numbers top → n ≡ top +ℤ pos 1 → n ≤ℤ last_number
    → value_in new_values ≡ overlay cs (value_in values) → new_numbers ≡ renumbered n cs numbers
    → Commits cs (entries_in (joined values numbers)) (entries_in (joined new_values new_numbers))
commits_joined n top cs values new_values numbers new_numbers same h next fits is_values is_numbers = inr (record {
  top = top;
  greatest = greatest_joined values numbers top same h;
  fits = subst (λ m. m ≤ℤ last_number) next fits;
  is = overlay_joined n cs values new_values numbers new_numbers is_values is_numbers
      ∙ ap (λ m. overlay_numbered m cs (entries_in (joined values numbers))) next;
})

pub same_keys_made : (n : ℤ) (cs : List Change) (values new_values numbers new_numbers : Map) → HaveSameKeys values numbers
    → new_values ≡ overlay cs values → new_numbers ≡ renumbered n cs numbers → HaveSameKeys new_values new_numbers
same_keys_made n cs values new_values numbers new_numbers same is_values is_numbers =
    subst (λ (m : Map). HaveSameKeys m new_numbers) (sym is_values)
    (subst (λ (m : Map). HaveSameKeys (overlay cs values) m) (sym is_numbers) (same_keys_after n cs values numbers same))

pub full_joined : (cs : List Change) (values : Rows) (numbers : Map) (top : ℤ) → HaveSameKeys (value_in values) numbers → IsTopIn numbers top
    → top ≡ last_number → (cs ≡ [] → ⊥) → IsFull cs (entries_in (joined values numbers))
full_joined cs values numbers top same h last some = record {
  some = some;
  last = subst (λ n. IsGreatest (entries_in (joined values numbers)) n) last (greatest_joined values numbers top same h);
}

-- where there is a next number it is not full
pub not_full : (cs : List Change) (values : Rows) (numbers : Map) (n top : ℤ) → HaveSameKeys (value_in values) numbers → IsTopIn numbers top
    → n ≡ top +ℤ pos 1 → n ≤ℤ last_number → IsFull cs (entries_in (joined values numbers)) → ⊥
not_full cs values numbers n top same h next fits full =
    let is : top ≡ last_number = one_greatest (entries_in (joined values numbers)) top last_number (greatest_joined values numbers top same h) full.last in
    beyond n top next fits is
  where
    beyond : (n top : ℤ) → n ≡ top +ℤ pos 1 → n ≤ℤ last_number → top ≡ last_number → ⊥
    beyond n top next fits is = omega (arith, ints)

pub values_left : (rows : List Row) (left : Numbered) → left ≡ entries_in rows → values_of left ≡ value_in (plain rows)
values_left rows left is = ap values_of is ∙ values_in_rows rows

pub values_rows_committed : (cs : List Change) (old new : List Row) → Commits cs (entries_in old) (entries_in new)
    → value_in (plain new) ≡ overlay cs (value_in (plain old))
values_rows_committed cs old new h =
    sym (values_in_rows new) ∙ values_committed cs (entries_in old) (entries_in new) h ∙ ap (overlay cs) (values_in_rows old)
