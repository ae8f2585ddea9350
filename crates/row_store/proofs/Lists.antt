-- One element of a list is set, under a map.
use Rattle.std.proofs.Common.{◌≡◌, ℕ, zero, suc, ◌<◌, ◌≤◌, List, [], ◌∷◌, map, length, get_or, set, take, drop, replicate, refl, sym, ap, ◌∙◌, arith}

module _ {X Y : Type 0} (f : X → Y) where
  pub map_set : (xs : List X) (t : ℕ) (x : X) → map f (set xs t x) ≡ set (map f xs) t (f x)
  map_set [] t x = refl
  map_set (y ∷ xs) zero x = refl
  map_set (y ∷ xs) (suc t) x = ap (λ l. f y ∷ l) (map_set xs t x)

  pub set_at : (xs : List X) (t : ℕ) (x : X) (d : Y) → t < length xs → get_or (map f (set xs t x)) t d ≡ f x
  set_at [] t x d h = absurd (omega arith)
  set_at (y ∷ xs) zero x d h = refl
  set_at (y ∷ xs) (suc t) x d h = set_at xs t x d (omega arith)

  pub read_at : (xs : List X) (t : ℕ) (was : X) (d : Y) → t < length xs → was ≡ get_or xs t was → get_or (map f xs) t d ≡ f was
  read_at [] t was d h is = absurd (omega arith)
  read_at (y ∷ xs) zero was d h is = sym (ap f is)
  read_at (y ∷ xs) (suc t) was d h is = read_at xs t was d (omega arith) is

  pub same_set : (xs : List X) (t : ℕ) (was x : X) → was ≡ get_or xs t was → f x ≡ f was → map f (set xs t x) ≡ map f xs
  same_set [] t was x is h = refl
  same_set (y ∷ xs) zero was x is h = ap (λ w. w ∷ map f xs) (h ∙ ap f is)
  same_set (y ∷ xs) (suc t) was x is h = ap (λ l. f y ∷ l) (same_set xs t was x is h)

pub room_set : {X : Type 0} (f : X → ℕ) (xs : List X) (t : ℕ) (was x : X) → was ≡ get_or xs t was → f was ≤ f x → (k : ℕ) → get_or (map f xs) k 0 ≤ get_or (map f (set xs t x)) k 0
room_set f [] t was x is h k = omega arith
room_set f (y ∷ xs) zero was x is h zero = omega (arith, ap f is, h)
room_set f (y ∷ xs) zero was x is h (suc k) = omega arith
room_set f (y ∷ xs) (suc t) was x is h zero = omega arith
room_set f (y ∷ xs) (suc t) was x is h (suc k) = room_set f xs t was x is h k

pub set_back : {X : Type 0} (xs : List X) (t : ℕ) (x d : X) → t < length xs → set (set xs t x) t (get_or xs t d) ≡ xs
set_back [] t x d h = absurd (omega arith)
set_back (y ∷ xs) zero x d h = refl
set_back (y ∷ xs) (suc t) x d h = ap (λ l. y ∷ l) (set_back xs t x d (omega arith))

pub same_take : {X : Type 0} (xs : List X) (n k : ℕ) → n ≤ k → (n < k → length xs ≤ n) → take n xs ≡ take k xs
same_take [] zero zero h all = refl
same_take [] zero (suc k) h all = refl
same_take [] (suc n) zero h all = refl
same_take [] (suc n) (suc k) h all = refl
same_take (x ∷ xs) zero zero h all = refl
same_take (x ∷ xs) zero (suc k) h all = absurd (omega (arith, all (omega arith)))
same_take (x ∷ xs) (suc n) zero h all = absurd (omega arith)
same_take (x ∷ xs) (suc n) (suc k) h all = ap (λ l. x ∷ l) (same_take xs n k (omega arith) (λ less. omega (arith, all (omega arith))))

pub same_drop : {X : Type 0} (xs : List X) (n k : ℕ) → n ≤ k → (n < k → length xs ≤ n) → drop n xs ≡ drop k xs
same_drop [] zero zero h all = refl
same_drop [] zero (suc k) h all = refl
same_drop [] (suc n) zero h all = refl
same_drop [] (suc n) (suc k) h all = refl
same_drop (x ∷ xs) zero zero h all = refl
same_drop (x ∷ xs) zero (suc k) h all = absurd (omega (arith, all (omega arith)))
same_drop (x ∷ xs) (suc n) zero h all = absurd (omega arith)
same_drop (x ∷ xs) (suc n) (suc k) h all = same_drop xs n k (omega arith) (λ less. omega (arith, all (omega arith)))

pub all_default : {X : Type 0} (d : X) (n t : ℕ) → get_or (replicate n d) t d ≡ d
all_default d zero zero = refl
all_default d zero (suc t) = refl
all_default d (suc n) zero = refl
all_default d (suc n) (suc t) = all_default d n t
