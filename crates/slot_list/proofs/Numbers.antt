-- The numbers of slots, where one comes or goes.
use Rattle.std.proofs.Common.{◌≡◌, ℕ, zero, suc, ◌+◌, ◌<◌, ◌≤◌, List, [], ◌∷◌, ◌++◌, length, take, refl, sym, ap, subst, ◌∙◌, arith, Some}
use Rattle.std.specs.Prelude.{slice_get}
use Rattle.std.specs.List.{AllByRecursion, insert, remove}
use Rattle.std.proofs.lemmas.Option.{none-some, same_Some}
use Rattle.slot_list.specs.Slots.{AreDistinct}

-- ---- what holds of each

module _ {X : Type 0} (P : X → Type 0) where
  pub all_insert : (xs : List X) (i : ℕ) (x : X) → P x → AllByRecursion P xs → AllByRecursion P (insert xs i x)
  all_insert [] zero x p h = (p, tt)
  all_insert [] (suc i) x p h = (p, tt)
  all_insert (y ∷ xs) zero x p h = (p, h)
  all_insert (y ∷ xs) (suc i) x p h = (h.0, all_insert xs i x p h.1)

  pub all_remove : (xs : List X) (i : ℕ) → AllByRecursion P xs → AllByRecursion P (remove xs i)
  all_remove [] zero h = tt
  all_remove [] (suc i) h = tt
  all_remove (y ∷ xs) zero h = h.1
  all_remove (y ∷ xs) (suc i) h = (h.0, all_remove xs i h.1)

  pub all_take : (xs : List X) (n : ℕ) → AllByRecursion P xs → AllByRecursion P (take n xs)
  all_take xs zero h = tt
  all_take [] (suc n) h = tt
  all_take (y ∷ xs) (suc n) h = (h.0, all_take xs n h.1)

  pub all_front : (xs ys : List X) → AllByRecursion P (xs ++ ys) → AllByRecursion P xs
  all_front [] ys h = tt
  all_front (x ∷ xs) ys h = (h.0, all_front xs ys h.1)

  pub all_end : (xs : List X) (x : X) → AllByRecursion P xs → P x → AllByRecursion P (xs ++ x ∷ [])
  all_end [] x h p = (p, tt)
  all_end (y ∷ xs) x h p = (h.0, all_end xs x h.1 p)

  pub all_last : (xs : List X) (x : X) → AllByRecursion P (xs ++ x ∷ []) → P x
  all_last [] x h = h.0
  all_last (y ∷ xs) x h = all_last xs x h.1

  pub all_at : (xs : List X) (i : ℕ) (x : X) → AllByRecursion P xs → slice_get xs i ≡ Some x → P x
  all_at [] i x h e = absurd (none-some x e)
  all_at (y ∷ xs) zero x h e = subst P (same_Some y x e) h.0
  all_at (y ∷ xs) (suc i) x h e = all_at xs i x h.1 e

pub all_more : {X : Type 0} (P Q : X → Type 0) → ((x : X) → P x → Q x) → (xs : List X) → AllByRecursion P xs → AllByRecursion Q xs
all_more P Q f [] h = tt
all_more P Q f (x ∷ xs) h = (f x h.0, all_more P Q f xs h.1)

-- ---- no number twice

pub distinct_insert : (ns : List ℕ) (i n : ℕ) → AllByRecursion (λ m. n ≡ m → ⊥) ns → AreDistinct ns → AreDistinct (insert ns i n)
distinct_insert [] zero n a h = (tt, tt)
distinct_insert [] (suc i) n a h = (tt, tt)
distinct_insert (m ∷ ns) zero n a h = (a, h)
distinct_insert (m ∷ ns) (suc i) n a h = (all_insert (λ k. m ≡ k → ⊥) ns i n (λ e. a.0 (sym e)) h.0, distinct_insert ns i n a.1 h.1)

pub distinct_remove : (ns : List ℕ) (i : ℕ) → AreDistinct ns → AreDistinct (remove ns i)
distinct_remove [] zero h = tt
distinct_remove [] (suc i) h = tt
distinct_remove (m ∷ ns) zero h = h.1
distinct_remove (m ∷ ns) (suc i) h = (all_remove (λ k. m ≡ k → ⊥) ns i h.0, distinct_remove ns i h.1)

pub distinct_end : (ns : List ℕ) (n : ℕ) → AllByRecursion (λ m. n ≡ m → ⊥) ns → AreDistinct ns → AreDistinct (ns ++ n ∷ [])
distinct_end [] n a h = (tt, tt)
distinct_end (m ∷ ns) n a h = (all_end (λ k. m ≡ k → ⊥) ns n h.0 (λ e. a.0 (sym e)), distinct_end ns n a.1 h.1)

pub distinct_front : (ns : List ℕ) (n : ℕ) → AreDistinct (ns ++ n ∷ []) → AreDistinct ns
distinct_front [] n h = tt
distinct_front (m ∷ ns) n h = (all_front (λ k. m ≡ k → ⊥) ns (n ∷ []) h.0, distinct_front ns n h.1)

-- the last one is none of those before it
pub last_unlike : (ns : List ℕ) (n : ℕ) → AreDistinct (ns ++ n ∷ []) → AllByRecursion (λ m. n ≡ m → ⊥) ns
last_unlike [] n h = tt
last_unlike (m ∷ ns) n h = ((λ e. all_last (λ k. m ≡ k → ⊥) ns n h.0 (sym e)), last_unlike ns n h.1)

-- the one at a place is none of the others
pub unlike_removed : (ns : List ℕ) (i n : ℕ) → AreDistinct ns → slice_get ns i ≡ Some n → AllByRecursion (λ m. n ≡ m → ⊥) (remove ns i)
unlike_removed [] i n h e = absurd (none-some n e)
unlike_removed (m ∷ ns) zero n h e = subst (λ k. AllByRecursion (λ l. k ≡ l → ⊥) ns) (same_Some m n e) h.0
unlike_removed (m ∷ ns) (suc i) n h e = ((λ same. all_at (λ k. m ≡ k → ⊥) ns i n h.0 e (sym same)), unlike_removed ns i n h.1 e)

-- ---- the front of a list

pub take_front : {X : Type 0} (xs ys : List X) (n : ℕ) → n ≤ length xs → take n (xs ++ ys) ≡ take n xs
take_front xs ys zero h = refl
take_front [] ys (suc n) h = absurd (omega (arith, h))
take_front (x ∷ xs) ys (suc n) h = ap (λ l. x ∷ l) (take_front xs ys n (omega (arith, h)))

pub take_insert : {X : Type 0} (xs : List X) (n i : ℕ) (x : X) → i ≤ n → n ≤ length xs → take (suc n) (insert xs i x) ≡ insert (take n xs) i x
take_insert [] n zero x h w = refl
take_insert [] n (suc i) x h w = absurd (omega (arith, h, w))
take_insert (y ∷ xs) n zero x h w = refl
take_insert (y ∷ xs) zero (suc i) x h w = absurd (omega (arith, h))
take_insert (y ∷ xs) (suc n) (suc i) x h w = ap (λ l. y ∷ l) (take_insert xs n i x (omega (arith, h)) (omega (arith, w)))

pub take_remove : {X : Type 0} (xs : List X) (n i : ℕ) → i ≤ n → n < length xs → take n (remove xs i) ≡ remove (take (suc n) xs) i
take_remove [] n i h w = absurd (omega (arith, w))
take_remove (y ∷ xs) n zero h w = refl
take_remove (y ∷ xs) zero (suc i) h w = absurd (omega (arith, h))
take_remove (y ∷ xs) (suc n) (suc i) h w = ap (λ l. y ∷ l) (take_remove xs n i (omega (arith, h)) (omega (arith, w)))

pub length_insert : {X : Type 0} (xs : List X) (i : ℕ) (x : X) → i ≤ length xs → length (insert xs i x) ≡ length xs + 1
length_insert [] zero x h = refl
length_insert [] (suc i) x h = absurd (omega (arith, h))
length_insert (y ∷ xs) zero x h = omega arith
length_insert (y ∷ xs) (suc i) x h = let e = length_insert xs i x (omega (arith, h)) in omega (arith, e)

pub length_remove : {X : Type 0} (xs : List X) (i : ℕ) → i < length xs → length (remove xs i) + 1 ≡ length xs
length_remove [] i h = absurd (omega (arith, h))
length_remove (y ∷ xs) zero h = omega arith
length_remove (y ∷ xs) (suc i) h = let e = length_remove xs i (omega (arith, h)) in omega (arith, e)

pub length_end : {X : Type 0} (xs : List X) (x : X) → length (xs ++ x ∷ []) ≡ length xs + 1
length_end [] x = refl
length_end (y ∷ xs) x = let e = length_end xs x in omega (arith, e)
