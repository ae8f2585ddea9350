-- The first so many of a list, as one is set, put in and taken out.
use Rattle.std.proofs.Common.{◌≡◌, ℕ, zero, suc, ◌+◌, ◌<◌, ◌≤◌, List, [], ◌∷◌, ◌++◌, ◌-◌, length, set, take, refl, sym, ap, ◌∙◌, arith}
use Rattle.std.specs.List.{insert, remove}
use Rattle.std.proofs.lemmas.List.{take-append-le}

module _ {X : Type 0} where
  pub first-set : (n i : ℕ) (xs : List X) (x : X) → take n (set xs i x) ≡ set (take n xs) i x
  first-set zero i xs x = refl
  first-set (suc n) i [] x = refl
  first-set (suc n) zero (y ∷ ys) x = refl
  first-set (suc n) (suc i) (y ∷ ys) x = ap (λ zs. y ∷ zs) (first-set n i ys x)

  first-insert : (n i : ℕ) (xs : List X) (x : X) → i ≤ n → n ≤ length xs → take (suc n) (insert xs i x) ≡ insert (take n xs) i x
  first-insert n zero xs x within fits = refl
  first-insert zero (suc i) xs x within fits = absurd (omega (arith, within))
  first-insert (suc n) (suc i) [] x within fits = absurd (omega (arith, fits))
  first-insert (suc n) (suc i) (y ∷ ys) x within fits = ap (λ zs. y ∷ zs) (first-insert n i ys x (omega (arith, within)) (omega (arith, fits)))

  -- one is put in, and the last is left out, which is not among the first
  pub put_in_first : (n m i : ℕ) (xs ys : List X) (x y : X) → m ≡ n + 1 → insert xs i x ≡ ys ++ y ∷ [] → n < length ys → i ≤ n → n ≤ length xs
      → take m ys ≡ insert (take n xs) i x
  put_in_first n m i xs ys x y more is room within fits =
      let next : m ≡ suc n = omega (arith, more) in
      sym (take-append-le m ys (y ∷ []) (omega (arith, more, room)))
      ∙ sym (ap (take m) is)
      ∙ ap (λ (k : ℕ). take k (insert xs i x)) next
      ∙ first-insert n i xs x within fits

  first-remove : (m i : ℕ) (xs : List X) (x : X) → i ≤ m → m < length xs → take m (remove xs i ++ x ∷ []) ≡ remove (take (suc m) xs) i
  first-remove m i [] x within fits = absurd (omega (arith, fits))
  first-remove m zero (y ∷ ys) x within fits = take-append-le m ys (x ∷ []) (omega (arith, fits))
  first-remove zero (suc i) (y ∷ ys) x within fits = absurd (omega (arith, within))
  first-remove (suc m) (suc i) (y ∷ ys) x within fits = ap (λ zs. y ∷ zs) (first-remove m i ys x (omega (arith, within)) (omega (arith, fits)))

  -- one is taken out, and something else follows the others, which is not among the first
  pub taken_from_first : (n m i : ℕ) (xs ys : List X) (x : X) → m ≡ n - 1 → ys ≡ remove xs i ++ x ∷ [] → i < n → n ≤ length xs
      → take m ys ≡ remove (take n xs) i
  taken_from_first n m i xs ys x less is within fits =
      let next : suc m ≡ n = omega (arith, less, within) in
      ap (take m) is
      ∙ first-remove m i xs x (omega (arith, next, within)) (omega (arith, next, fits))
      ∙ ap (λ (k : ℕ). remove (take k xs) i) next

  -- what was put in is taken out again
  pub put_and_taken : (i : ℕ) (xs : List X) (x : X) → i ≤ length xs → remove (insert xs i x) i ≡ xs
  put_and_taken zero xs x within = refl
  put_and_taken (suc i) [] x within = absurd (omega (arith, within))
  put_and_taken (suc i) (y ∷ ys) x within = ap (λ zs. y ∷ zs) (put_and_taken i ys x (omega (arith, within)))
