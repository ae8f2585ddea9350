-- The keys of a group stand together in byte order: none is below the group's bytes with a dot behind them, and behind one from
-- there on that is none of them there are none.
use Rattle.std.proofs.Common.{◌≡◌, ◌≤◌, ℕ, ℤ, zero, suc, pos, ◌+ℤ◌, length, take, drop, get_or, map, true≢false, Bool, true, false, ◌&&◌, List, [], ◌∷◌, ◌++◌, eqb, cond, ◌+◌, refl, sym, ap, subst, ◌∙◌, arith, ◌<◌}
use Rattle.std.specs.Prelude.{nat_lt, nat_eq}
use Rattle.std.proofs.lemmas.Bool.{eq-eqb, false≢true, ltb-true}
use Rattle.std.proofs.lemmas.Int.{ints}
use Rattle.std.proofs.lemmas.Cmp.{nat_list_cmp_total}
use Rattle.std.specs.List.{AllByRecursion, fold}
use Rattle.txn_names.proofs.Exports.{on_test}
use Rattle.serial_spec.specs.Rows.{Rows, IsRising}
use Rattle.serial_spec.specs.Places.{is_below, part, rank}
use Rattle.std.specs.Ordering.{nat_cmp, is_lt, ordering_then}
use Rattle.std.specs.Cmp.Lexicographic.{slice_cmp}
use Rattle.std.specs.declared.cmp.Ordering.{Ordering}
use Rattle.std.specs.declared.cmp.Ordering.TheVariants.{Less, Equal, Greater}
use Rattle.txn_names.specs.Groups.{has}
use Rattle.txn_names.specs.Text.{IsKey}
use Rattle.serial_spec.proofs.Ordered.{on_ordering}

-- how two numbers compare
by_less : (a b : ℕ) → nat_cmp a b ≡ Less → a < b
by_less a b e = by (nat_lt a b) refl
  where
    not : (c : Bool) → cond c Equal Greater ≡ Less → ⊥
    not true f = cc
    not false f = cc

    by : (v : Bool) → nat_lt a b ≡ v → a < b
    by true t = ltb-true a b t
    by false t = absurd (not (nat_eq a b) (sym (ap (λ v. cond v Less (cond (nat_eq a b) Equal Greater)) t) ∙ e))

by_equal : (a b : ℕ) → nat_cmp a b ≡ Equal → a ≡ b
by_equal a b e = grind (arith, e)

by_greater : (a b : ℕ) → nat_cmp a b ≡ Greater → b < a
by_greater a b e = grind (arith, e)

other_byte : (a b : ℕ) → a < b → eqb a b ≡ false
other_byte a b h = grind (arith, h)

other_byte_back : (a b : ℕ) → b < a → eqb a b ≡ false
other_byte_back a b h = grind (arith, h)

-- a key below them is none of the group
pub below_none : (g k : List ℕ) → slice_cmp nat_cmp k (g ++ 46 ∷ []) ≡ Less → has g k ≡ false
below_none [] [] h = refl
below_none [] (b ∷ k) h =
    on_ordering (nat_cmp b 46) (λ o. nat_cmp b 46 ≡ o → ordering_then o (slice_cmp nat_cmp k []) ≡ Less → eqb b 46 ≡ false)
    (λ _ less _. other_byte b 46 (by_less b 46 less))
    (λ _ _ f. absurd (rest k f))
    (λ _ _ f. cc)
    refl h
  where
    rest : (q : List ℕ) → slice_cmp nat_cmp q [] ≡ Less → ⊥
    rest [] f = cc
    rest (x ∷ q) f = cc
below_none (c ∷ g) [] h = refl
below_none (c ∷ g) (b ∷ k) h =
    on_ordering (nat_cmp b c) (λ o. nat_cmp b c ≡ o → ordering_then o (slice_cmp nat_cmp k (g ++ 46 ∷ [])) ≡ Less → (eqb c b && has g k) ≡ false)
    (λ _ less _. ap (λ v. v && has g k) (other_byte_back c b (by_less b c less)))
    (λ _ same f. ap (λ v. eqb c b && v) (below_none g k f) ∙ none (eqb c b))
    (λ _ _ f. cc)
    refl h
  where
    none : (v : Bool) → (v && false) ≡ false
    none true = refl
    none false = refl

first_byte : (a c d : ℕ) → a < c → c < d → eqb a d ≡ false
first_byte a c d h k = grind (arith, h, k)

-- from these bytes on, behind one that is none of the group there are none
pub behind_none : (g a b : List ℕ) → (slice_cmp nat_cmp a (g ++ 46 ∷ []) ≡ Less → ⊥) → has g a ≡ false → slice_cmp nat_cmp a b ≡ Less → has g b ≡ false
behind_none g [] b low none up = absurd (low (nothing_less g))
  where
    nothing_less : (f : List ℕ) → slice_cmp nat_cmp [] (f ++ 46 ∷ []) ≡ Less
    nothing_less [] = refl
    nothing_less (x ∷ f) = refl
behind_none g (x ∷ a) [] low none up = cc
behind_none [] (x ∷ a) (y ∷ b) low none up =
    on_ordering (nat_cmp x 46) (λ o. nat_cmp x 46 ≡ o → (ordering_then o (slice_cmp nat_cmp a []) ≡ Less → ⊥) → eqb y 46 ≡ false)
    (λ _ _ l. absurd (l refl))
    (λ _ same _. absurd (not_here x none (by_equal x 46 same)))
    (λ _ more _. above x y more up)
    refl low
  where
    not_here : (n : ℕ) → eqb n 46 ≡ false → n ≡ 46 → ⊥
    not_here n e s = grind (arith, e, s)

    above : (n m : ℕ) → nat_cmp n 46 ≡ Greater → ordering_then (nat_cmp n m) (slice_cmp nat_cmp a b) ≡ Less → eqb m 46 ≡ false
    above n m more h =
        on_ordering (nat_cmp n m) (λ o. nat_cmp n m ≡ o → ordering_then o (slice_cmp nat_cmp a b) ≡ Less → eqb m 46 ≡ false)
        (λ _ less _. let p = by_greater n 46 more in let q = by_less n m less in other_byte_back m 46 (omega (arith, p, q)))
        (λ _ same _. let p = by_greater n 46 more in let q = by_equal n m same in other_byte_back m 46 (omega (arith, p, q)))
        (λ _ _ f. cc)
        refl h
behind_none (c ∷ g) (x ∷ a) (y ∷ b) low none up =
    on_ordering (nat_cmp x c) (λ o. nat_cmp x c ≡ o → (ordering_then o (slice_cmp nat_cmp a (g ++ 46 ∷ [])) ≡ Less → ⊥) → (eqb c y && has g b) ≡ false)
    (λ _ _ l. absurd (l refl))
    (λ _ same l. here (by_equal x c same) (λ e f. behind_none g a b l e f))
    (λ _ more _. ap (λ v. v && has g b) (above (by_greater x c more)))
    refl low
  where
    never : (v : Bool) → (v && false) ≡ false
    never true = refl
    never false = refl

    above : c < x → eqb c y ≡ false
    above h =
        on_ordering (nat_cmp x y) (λ o. nat_cmp x y ≡ o → ordering_then o (slice_cmp nat_cmp a b) ≡ Less → eqb c y ≡ false)
        (λ _ less _. first_byte c x y h (by_less x y less))
        (λ _ same _. other_byte c y (let q = by_equal x y same in omega (arith, h, q)))
        (λ _ _ f. cc)
        refl up

    rest_none : x ≡ c → has g a ≡ false
    rest_none s = sym (ap (λ v. v && has g a) (eq-eqb c x (sym s))) ∙ none

    here : x ≡ c → (has g a ≡ false → slice_cmp nat_cmp a b ≡ Less → has g b ≡ false) → (eqb c y && has g b) ≡ false
    here s rest =
        on_ordering (nat_cmp x y) (λ o. nat_cmp x y ≡ o → ordering_then o (slice_cmp nat_cmp a b) ≡ Less → (eqb c y && has g b) ≡ false)
        (λ _ less _. ap (λ v. v && has g b) (other_byte c y (let q = by_less x y less in omega (arith, s, q))))
        (λ _ _ f. ap (λ v. eqb c y && v) (rest (rest_none s) f) ∙ never (eqb c y))
        (λ _ _ f. cc)
        refl up

-- ---- rows

abbrev pub Out : List ℕ → List ℕ × ℤ → Type 0
Out g r = has g r.0 ≡ false

-- rows of other groups add nothing
pub sum_out : (g : List ℕ) (s : ℤ) (rows : Rows) → AllByRecursion (Out g) rows → fold (λ t r. t +ℤ part g r) s rows ≡ s
sum_out g s [] all = refl
sum_out g s (r ∷ rows) all =
    let none : part g r ≡ pos 0 = ap (λ b. cond b r.1 (pos 0)) all.0 in
    sum_out g (s +ℤ part g r) rows all.1 ∙ omega (arith, ints, none)

is_less : (o : Ordering) → is_lt o ≡ true → o ≡ Less
is_less Less e = refl
is_less Equal e = absurd (false≢true e)
is_less Greater e = absurd (false≢true e)

at_most : {n : ℕ} → n ≡ 0 → (m : ℕ) → n ≤ m
at_most e m = omega (arith, e)

-- those in front of the group's place are of others
pub front_out : (g : List ℕ) (rows : Rows) → AllByRecursion (Out g) (take (rank rows (g ++ 46 ∷ [])) rows)
front_out g [] = tt
front_out g (r ∷ rows) =
    on_test (is_below r.0 (g ++ 46 ∷ [])) (λ b. is_below r.0 (g ++ 46 ∷ []) ≡ b → AllByRecursion (Out g) (take (cond b (suc (rank rows (g ++ 46 ∷ []))) 0) (r ∷ rows)))
    (λ _ e. (below_none g r.0 (is_less (slice_cmp nat_cmp r.0 (g ++ 46 ∷ [])) e), front_out g rows))
    (λ _ _. tt)
    refl

-- where no row is below, none stands in front
pub none_before_of : (g : List ℕ) (a : List ℕ) (rows : Rows) → (slice_cmp nat_cmp a (g ++ 46 ∷ []) ≡ Less → ⊥) → AllByRecursion (λ q. slice_cmp nat_cmp a q ≡ Less) (map (λ r. r.0) rows) → rank rows (g ++ 46 ∷ []) ≡ 0
none_before_of g a [] low up = refl
none_before_of g a (r ∷ rows) low up =
    on_test (is_below r.0 (g ++ 46 ∷ [])) (λ b. is_below r.0 (g ++ 46 ∷ []) ≡ b → cond b (suc (rank rows (g ++ 46 ∷ []))) 0 ≡ 0)
    (λ _ e. absurd (low (nat_list_cmp_total.trans a r.0 (g ++ 46 ∷ []) up.0 (is_less (slice_cmp nat_cmp r.0 (g ++ 46 ∷ [])) e))))
    (λ _ _. refl)
    refl

-- and so are those from a row on, behind that place, that is of another
out_above : (g a : List ℕ) (rows : Rows) → (slice_cmp nat_cmp a (g ++ 46 ∷ []) ≡ Less → ⊥) → has g a ≡ false → AllByRecursion (λ q. slice_cmp nat_cmp a q ≡ Less) (map (λ r. r.0) rows) → AllByRecursion (Out g) rows
out_above g a [] low none up = tt
out_above g a (r ∷ rows) low none up = (behind_none g a r.0 low none up.0, out_above g a rows low none up.1)

pub rest_out : (g : List ℕ) (rows : Rows) (n : ℕ) (d : List ℕ × ℤ) → IsRising rows → rank rows (g ++ 46 ∷ []) ≤ n → n < length rows → has g (get_or rows n d).0 ≡ false
    → AllByRecursion (Out g) (drop n rows)
rest_out g [] n d up from within none = absurd (omega (arith, within))
rest_out g (r ∷ rows) n d up from within none =
    on_test (is_below r.0 (g ++ 46 ∷ [])) (λ b. is_below r.0 (g ++ 46 ∷ []) ≡ b → cond b (suc (rank rows (g ++ 46 ∷ []))) 0 ≤ n → AllByRecursion (Out g) (drop n (r ∷ rows)))
    (λ _ _ more. later n more within none (λ m a b c. rest_out g rows m d up.1 a b c))
    (λ _ e _. here n within none (λ f. true≢false (sym (ap is_lt f) ∙ e)) (λ m b c. rest_out g rows m d up.1 (at_most (none_before_of g r.0 rows (λ f. true≢false (sym (ap is_lt f) ∙ e)) up.0) m) b c))
    refl from
  where
    later : (m : ℕ) → suc (rank rows (g ++ 46 ∷ [])) ≤ m → m < length (r ∷ rows) → has g (get_or (r ∷ rows) m d).0 ≡ false
        → ((k : ℕ) → rank rows (g ++ 46 ∷ []) ≤ k → k < length rows → has g (get_or rows k d).0 ≡ false → AllByRecursion (Out g) (drop k rows)) → AllByRecursion (Out g) (drop m (r ∷ rows))
    later zero more b c ih = absurd (omega (arith, more))
    later (suc k) more b c ih = ih k (omega (arith, more)) (omega (arith, b)) c

    here : (m : ℕ) → m < length (r ∷ rows) → has g (get_or (r ∷ rows) m d).0 ≡ false → (slice_cmp nat_cmp r.0 (g ++ 46 ∷ []) ≡ Less → ⊥)
        → ((k : ℕ) → k < length rows → has g (get_or rows k d).0 ≡ false → AllByRecursion (Out g) (drop k rows)) → AllByRecursion (Out g) (drop m (r ∷ rows))
    here zero b c low ih = (c, out_above g r.0 rows low c up.0)
    here (suc k) b c low ih = ih k (omega (arith, b)) c

-- a row of the group has a key's bytes
abbrev pub Fine : List ℕ → List ℕ × ℤ → Type 0
Fine g r = has g r.0 ≡ true → IsKey r.0

pub fine_out : (g : List ℕ) (rows : Rows) → AllByRecursion (Out g) rows → AllByRecursion (Fine g) rows
fine_out g [] all = tt
fine_out g (r ∷ rows) all = ((λ i. absurd (false≢true (sym all.0 ∙ i))), fine_out g rows all.1)

pub fine_all : (g : List ℕ) (n : ℕ) (rows : Rows) → AllByRecursion (Fine g) (take n rows) → AllByRecursion (Out g) (drop n rows) → AllByRecursion (Fine g) rows
fine_all g zero rows front rest = fine_out g rows rest
fine_all g (suc n) [] front rest = tt
fine_all g (suc n) (r ∷ rows) front rest = (front.0, fine_all g n rows front.1 rest)

-- the rows in front have the whole sum, where the rest are of others
pub sum_front : (g : List ℕ) (s : ℤ) (n : ℕ) (rows : Rows) → AllByRecursion (Out g) (drop n rows) → fold (λ t r. t +ℤ part g r) s rows ≡ fold (λ t r. t +ℤ part g r) s (take n rows)
sum_front g s zero rows rest = sum_out g s rows rest
sum_front g s (suc n) [] rest = refl
sum_front g s (suc n) (r ∷ rows) rest = sum_front g (s +ℤ part g r) n rows rest

-- one more row in front
pub fine_more : (g : List ℕ) (n : ℕ) (rows : Rows) (d : List ℕ × ℤ) → n < length rows → AllByRecursion (Fine g) (take n rows) → Fine g (get_or rows n d) → AllByRecursion (Fine g) (take (n + 1) rows)
fine_more g n [] d h front one = absurd (omega (arith, h))
fine_more g zero (r ∷ rows) d h front one = (one, tt)
fine_more g (suc n) (r ∷ rows) d h front one =
    let more : suc n + 1 ≡ suc (n + 1) = omega arith in
    subst (λ m. AllByRecursion (Fine g) (take m (r ∷ rows))) (sym more) (front.0, fine_more g n rows d (omega (arith, h)) front.1 one)
