-- A list seen from its front on, as one is put in and taken out.
use Rattle.std.proofs.Common.{◌≡◌, ℕ, zero, suc, ◌+◌, ◌<◌, ◌≤◌, List, [], ◌∷◌, drop, length, sym, ap, drop-drop, arith}
use Rattle.std.specs.List.{insert, remove}

module _ {X : Type 0} where
  pub insert_past : (front : ℕ) (xs : List X) (i j : ℕ) (x : X) → j ≡ front + i → j ≤ length xs → drop front (insert xs j x) ≡ insert (drop front xs) i x
  insert_past zero xs i j x e within = ap (λ (n : ℕ). insert xs n x) (omega (arith, e))
  insert_past (suc front) [] i j x e within = absurd (omega (arith, e, within))
  insert_past (suc front) (y ∷ ys) i zero x e within = absurd (omega (arith, e))
  insert_past (suc front) (y ∷ ys) i (suc j) x e within = insert_past front ys i j x (omega (arith, e)) (omega (arith, within))

  pub remove_past : (front : ℕ) (xs : List X) (i j : ℕ) → j ≡ front + i → j < length xs → drop front (remove xs j) ≡ remove (drop front xs) i
  remove_past zero xs i j e within = ap (λ (n : ℕ). remove xs n) (omega (arith, e))
  remove_past (suc front) [] i j e within = absurd (omega (arith, e, within))
  remove_past (suc front) (y ∷ ys) i zero e within = absurd (omega (arith, e))
  remove_past (suc front) (y ∷ ys) i (suc j) e within = remove_past front ys i j (omega (arith, e)) (omega (arith, within))

  -- the front is moved past the first
  pub remove_first : (front : ℕ) (xs : List X) (i : ℕ) → i ≤ 0 → drop (front + 1) xs ≡ remove (drop front xs) i
  remove_first front xs zero none = sym (drop-drop 1 front xs)
  remove_first front xs (suc i) none = absurd (omega (arith, none))
