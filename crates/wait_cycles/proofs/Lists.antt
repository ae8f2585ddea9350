-- Members, distinct lists and counts.
use Rattle.std.proofs.Common.{◌≡◌, ℕ, zero, suc, ◌+◌, ◌<◌, ◌≤◌, nat_eq, Bool, true, false, not, cond, ◌&&◌, ◌||◌, List, [], ◌∷◌, ◌++◌, length, map, filter, get_or, Some, None, is_some, unwrap_or, ◌⊎◌, inl, inr, refl, sym, ap, subst, ◌∙◌, true≢false, arith}
use Rattle.std.specs.Prelude.{slice_get}
use Rattle.std.specs.List.{list_any, position, position_from}
use Rattle.std.proofs.lemmas.Iterator.Adapters.{position_from-zero}
use Rattle.std.proofs.lemmas.List.Quantifiers.{position-Some}
use Rattle.std.proofs.lemmas.Option.{slice_get_cases}
use Rattle.std.proofs.lemmas.Bool.{false≢true, eqb-true, eq-eqb, or_cases, or_left, or_right, or_parts, and_parts, cases_lt}
use Rattle.wait_cycles.specs.Cycles.{is_member, is_distinct}

-- members of what is told of each
pub any-map : {X : Type 0} (f : X → ℕ) (a : ℕ) (xs : List X) → list_any (λ x. nat_eq a (f x)) xs ≡ is_member a (map f xs)
any-map f a [] = refl
any-map f a (x ∷ xs) = ap (λ b. nat_eq a (f x) || b) (any-map f a xs)

pub member_here : (a : ℕ) (xs : List ℕ) → is_member a (a ∷ xs) ≡ true
member_here a xs = or_left (nat_eq a a) (is_member a xs) (eq-eqb a a refl)

pub member_there : (a b : ℕ) (xs : List ℕ) → is_member a xs ≡ true → is_member a (b ∷ xs) ≡ true
member_there a b xs e = or_right (nat_eq a b) (is_member a xs) e

-- a member stands at a place
pub place_of : (a : ℕ) (xs : List ℕ) → is_member a xs ≡ true → (i : ℕ) × (slice_get xs i ≡ Some a)
place_of a [] e = absurd (false≢true e)
place_of a (x ∷ xs) e =
    elim (or_cases (nat_eq a x) (is_member a xs) e) [
      | inl here ↦ (0, ap Some (sym (eqb-true a x here)))
      | inr later ↦ let p = place_of a xs later in (suc p.0, p.1)
    ]

pub member_at : (a : ℕ) (xs : List ℕ) (i : ℕ) → slice_get xs i ≡ Some a → is_member a xs ≡ true
member_at a [] i e = absurd (false≢true (ap is_some e))
member_at a (x ∷ xs) zero e = subst (λ (y : ℕ). is_member a (y ∷ xs) ≡ true) (sym (ap (λ o. unwrap_or o x) e)) (member_here a xs)
member_at a (x ∷ xs) (suc i) e = member_there a x xs (member_at a xs i e)

pub member_append : (a : ℕ) (xs ys : List ℕ) → is_member a (xs ++ ys) ≡ (is_member a xs || is_member a ys)
member_append a [] ys = refl
member_append a (x ∷ xs) ys = ap (λ b. nat_eq a x || b) (member_append a xs ys) ∙ by (nat_eq a x)
  where
    by : (b : Bool) → (b || (is_member a xs || is_member a ys)) ≡ ((b || is_member a xs) || is_member a ys)
    by true = refl
    by false = refl

pub member_push : (a b : ℕ) (xs : List ℕ) → is_member a xs ≡ true → is_member a (xs ++ b ∷ []) ≡ true
member_push a b xs e = member_append a xs (b ∷ []) ∙ or_left (is_member a xs) (is_member a (b ∷ [])) e

pub pushed_member : (b : ℕ) (xs : List ℕ) → is_member b (xs ++ b ∷ []) ≡ true
pushed_member b xs = member_append b xs (b ∷ []) ∙ or_right (is_member b xs) (is_member b (b ∷ [])) (member_here b [])

-- one that is not there yet may be put behind
pub distinct_push : (b : ℕ) (xs : List ℕ) → is_distinct xs ≡ true → is_member b xs ≡ false → is_distinct (xs ++ b ∷ []) ≡ true
distinct_push b [] d n = refl
distinct_push b (x ∷ xs) d n =
    let parts = and_parts (not (is_member x xs)) (is_distinct xs) d in
    let apart = or_parts (nat_eq b x) (is_member b xs) n in
    rw (distinct_push b xs parts.1 apart.1)
    (ap (λ m. not m && true) (member_append x xs (b ∷ []) ∙ ap (λ m. is_member x xs || (m || false)) (other x apart.0)) ∙ by (is_member x xs) parts.0)
  where
    other : (y : ℕ) → nat_eq b y ≡ false → nat_eq y b ≡ false
    other y e = flip (nat_eq y b) refl
      where
        flip : (c : Bool) → nat_eq y b ≡ c → c ≡ false
        flip true s = absurd (true≢false (sym (eq-eqb b y (sym (eqb-true y b s))) ∙ e))
        flip false s = refl

    by : (m : Bool) → not m ≡ true → (not (m || (false || false)) && true) ≡ true
    by true e = absurd (false≢true e)
    by false e = refl

-- distinct ones stand at one place each
pub one_place : (xs : List ℕ) → is_distinct xs ≡ true → (i j a : ℕ) → slice_get xs i ≡ Some a → slice_get xs j ≡ Some a → i ≡ j
one_place [] d i j a at also = absurd (false≢true (ap is_some at))
one_place (x ∷ xs) d zero zero a at also = refl
one_place (x ∷ xs) d zero (suc j) a at also =
    let same : x ≡ a = ap (λ o. unwrap_or o x) at in
    absurd (false≢true (sym (ap not (subst (λ (y : ℕ). is_member y xs ≡ true) (sym same) (member_at a xs j also))) ∙ (and_parts (not (is_member x xs)) (is_distinct xs) d).0))
one_place (x ∷ xs) d (suc i) zero a at also =
    let same : x ≡ a = ap (λ o. unwrap_or o x) also in
    absurd (false≢true (sym (ap not (subst (λ (y : ℕ). is_member y xs ≡ true) (sym same) (member_at a xs i at))) ∙ (and_parts (not (is_member x xs)) (is_distinct xs) d).0))
one_place (x ∷ xs) d (suc i) (suc j) a at also = ap suc (one_place xs (and_parts (not (is_member x xs)) (is_distinct xs) d).1 i j a at also)

-- ---- places behind others

pub get-map : {X Y : Type 0} (f : X → Y) (xs : List X) (i : ℕ) (x : X) → slice_get xs i ≡ Some x → slice_get (map f xs) i ≡ Some (f x)
get-map f [] i x e = absurd (false≢true (ap is_some e))
get-map f (y ∷ xs) zero x e = ap (λ o. Some (f (unwrap_or o y))) e
get-map f (y ∷ xs) (suc i) x e = get-map f xs i x e

pub get-unmap : {X Y : Type 0} (f : X → Y) (xs : List X) (i : ℕ) (y : Y) → slice_get (map f xs) i ≡ Some y → (x : X) × (slice_get xs i ≡ Some x) × (f x ≡ y)
get-unmap f [] i y e = absurd (false≢true (ap is_some e))
get-unmap f (x ∷ xs) zero y e = (x, refl, ap (λ o. unwrap_or o (f x)) e)
get-unmap f (x ∷ xs) (suc i) y e = get-unmap f xs i y e

-- an item of a list stands at its place
pub item_at : {X : Type 0} (xs : List X) (i : ℕ) (x : X) → i < length xs → x ≡ get_or xs i x → slice_get xs i ≡ Some x
item_at [] i x within is = absurd (omega (arith, within))
item_at (y ∷ xs) zero x within is = ap Some (sym is)
item_at (y ∷ xs) (suc i) x within is = item_at xs i x (omega (arith, within)) is

pub get_within : {X : Type 0} (xs ys : List X) (i : ℕ) (x : X) → slice_get (xs ++ ys) i ≡ Some x → i < length xs → slice_get xs i ≡ Some x
get_within [] ys i x at within = absurd (omega (arith, within))
get_within (y ∷ xs) ys zero x at within = at
get_within (y ∷ xs) ys (suc i) x at within = get_within xs ys i x at (omega (arith, within))

pub map_append : {X Y : Type 0} (f : X → Y) (xs ys : List X) → map f (xs ++ ys) ≡ map f xs ++ map f ys
map_append f [] ys = refl
map_append f (x ∷ xs) ys = ap (λ zs. f x ∷ zs) (map_append f xs ys)

pub few_pass : {X : Type 0} (p : X → Bool) (xs : List X) → length (filter p xs) ≤ length xs
few_pass p [] = omega arith
few_pass p (x ∷ xs) = by (p x) (few_pass p xs)
  where
    by : (b : Bool) → length (filter p xs) ≤ length xs → length (cond b (x ∷ filter p xs) (filter p xs)) ≤ length (x ∷ xs)
    by true le = omega (arith, le)
    by false le = omega (arith, le)

module _ {X : Type 0} (p q : X → Bool) (f : (x : X) → q x ≡ true → p x ≡ true) where
  -- where fewer pass there are no more of them
  pub fewer : (xs : List X) → length (filter q xs) ≤ length (filter p xs)
  fewer [] = omega arith
  fewer (x ∷ xs) = by (p x) (q x) (f x) (fewer xs)
    where
      by : (a b : Bool) → (b ≡ true → a ≡ true) → length (filter q xs) ≤ length (filter p xs) → length (cond b (x ∷ filter q xs) (filter q xs)) ≤ length (cond a (x ∷ filter p xs) (filter p xs))
      by true true g le = omega (arith, le)
      by true false g le = omega (arith, le)
      by false true g le = absurd (false≢true (g refl))
      by false false g le = le

  -- and one less where one passes no more
  pub one_less : (xs : List X) (i : ℕ) (x : X) → slice_get xs i ≡ Some x → p x ≡ true → q x ≡ false → length (filter q xs) + 1 ≤ length (filter p xs)
  one_less [] i x at passed failed = absurd (false≢true (ap is_some at))
  one_less (y ∷ xs) zero x at passed failed =
      let same : y ≡ x = ap (λ o. unwrap_or o y) at in
      let le = fewer xs in
      rw (ap p same ∙ passed, ap q same ∙ failed) (omega (arith, le))
  one_less (y ∷ xs) (suc i) x at passed failed = by (p y) (q y) (f y) (one_less xs i x at passed failed)
    where
      by : (a b : Bool) → (b ≡ true → a ≡ true) → length (filter q xs) + 1 ≤ length (filter p xs)
          → length (cond b (y ∷ filter q xs) (filter q xs)) + 1 ≤ length (cond a (y ∷ filter p xs) (filter p xs))
      by true true g le = omega (arith, le)
      by true false g le = omega (arith, le)
      by false true g le = absurd (false≢true (g refl))
      by false false g le = le

pub length_map : {X Y : Type 0} (f : X → Y) (xs : List X) → length (map f xs) ≡ length xs
length_map f [] = refl
length_map f (x ∷ xs) = ap suc (length_map f xs)

-- the greatest so far, and one more
pub greatest_next : (xs : List ℕ) (n x last next : ℕ) → slice_get xs n ≡ Some x → last ≤ next → x ≤ next
    → ((i b : ℕ) → i < n → slice_get xs i ≡ Some b → b ≤ last) → (i b : ℕ) → i < n + 1 → slice_get xs i ≡ Some b → b ≤ next
greatest_next xs n x last next at grows here before i b less found =
    elim (cases_lt i n) [
      | inl below ↦ let so_far = before i b below found in omega (arith, so_far, grows)
      | inr past ↦
          let same_place : i ≡ n = omega (arith, past, less) in
          let same : x ≡ b = ap (λ o. unwrap_or o x) (sym at ∙ subst (λ (k : ℕ). slice_get xs k ≡ Some b) same_place found) in
          omega (arith, same, here)
    ]

-- ---- positions

module _ {X : Type 0} (p : X → Bool) (xs : List X) where
  -- one that was found passes
  pub passes_there : (n : ℕ) → position p xs ≡ Some n → (x : X) × (slice_get xs n ≡ Some x) × (p x ≡ true)
  passes_there n found = by (slice_get_cases xs n).1
    where
      by : ((x : X) × (n < length xs) × (slice_get xs n ≡ Some x) × (get_or xs n x ≡ x)) ⊎ ((length xs ≤ n) × (slice_get xs n ≡ None)) → (x : X) × (slice_get xs n ≡ Some x) × (p x ≡ true)
      by (inl w) = (w.0, w.2, sym (ap p w.3) ∙ (position-Some p xs n w.0 found).1)
      by (inr past) = absurd (nowhere xs found past.0)
        where
          nowhere : (ys : List X) → position p xs ≡ Some n → length xs ≤ n → ⊥
          nowhere [] e le = nobody xs e le
            where
              nobody : (zs : List X) → position p zs ≡ Some n → length zs ≤ n → ⊥
              nobody [] f l = false≢true (ap is_some f)
              nobody (z ∷ zs) f l = let w = (position-Some p (z ∷ zs) n z f).0 in absurd (omega (arith, w, l))
          nowhere (y ∷ ys) e le = let w = (position-Some p xs n y e).0 in absurd (omega (arith, w, le))

  passes_from : (a : ℕ) (ys : List X) → list_any p ys ≡ true → is_some (position_from p a ys) ≡ true
  passes_from a [] e = absurd (false≢true e)
  passes_from a (y ∷ ys) e = by (p y) e (passes_from (a + 1) ys)
    where
      by : (c : Bool) → (c || list_any p ys) ≡ true → (list_any p ys ≡ true → is_some (position_from p (a + 1) ys) ≡ true) → is_some (cond c (Some a) (position_from p (a + 1) ys)) ≡ true
      by true g later = refl
      by false g later = later g

  -- where none is found none passes
  pub none_passes : position p xs ≡ None → list_any p xs ≡ false
  none_passes none = by (list_any p xs) refl
    where
      by : (b : Bool) → list_any p xs ≡ b → b ≡ false
      by true e = absurd (true≢false (sym (passes_from 0 xs e) ∙ ap is_some (sym (position_from-zero p xs) ∙ none)))
      by false e = refl
