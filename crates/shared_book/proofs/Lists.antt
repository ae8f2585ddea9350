-- Lists that have the same at each place.
use Rattle.std.proofs.Common.{◌≡◌, ℕ, zero, suc, ◌<◌, List, [], ◌∷◌, Some, None, is_some, refl, sym, ap, ◌∙◌, arith}
use Rattle.std.proofs.lemmas.Option.{none-some}
use Rattle.std.specs.Prelude.{slice_get}
use Rattle.interleavings.proofs.Exports.{unsome}

-- they have the same at each place before n, and nothing at n
pub same_lists : {X : Type 0} (xs ys : List X) (n : ℕ) → ((i : ℕ) → i < n → slice_get xs i ≡ slice_get ys i) → slice_get xs n ≡ None → slice_get ys n ≡ None → xs ≡ ys
same_lists [] [] n same x_ends y_ends = refl
same_lists [] (y ∷ ys) zero same x_ends y_ends = absurd (none-some y (sym y_ends))
same_lists [] (y ∷ ys) (suc n) same x_ends y_ends = absurd (none-some y (same 0 (omega arith)))
same_lists (x ∷ xs) [] zero same x_ends y_ends = absurd (none-some x (sym x_ends))
same_lists (x ∷ xs) [] (suc n) same x_ends y_ends = absurd (none-some x (sym (same 0 (omega arith))))
same_lists (x ∷ xs) (y ∷ ys) zero same x_ends y_ends = absurd (none-some x (sym x_ends))
same_lists (x ∷ xs) (y ∷ ys) (suc n) same x_ends y_ends =
    let head : x ≡ y = unsome x y (same 0 (omega arith)) in
    let tail : xs ≡ ys = same_lists xs ys n (λ i less. same (suc i) (omega (arith, less))) x_ends y_ends in
    ap (λ z. z ∷ xs) head ∙ ap (λ zs. y ∷ zs) tail
