-- The first item of a schedule that is no session's number.
use Rattle.std.proofs.Common.{◌≡◌, ℕ, suc, ◌<◌, ◌≤◌, ◌⊎◌, inl, inr, List, length, get_or, slice_get, Some, refl, sym, subst, ◌∙◌, arith}
use Rattle.std.proofs.lemmas.Bool.{cases_lt}
use Rattle.std.proofs.lemmas.Option.{slice_get-get_or}
use Rattle.interleavings.specs.Runs.{AreThere, AllThere, IsStray}
use Rattle.interleavings.proofs.Numbers.{unsome}

module _ (count : ℕ) (xs : List ℕ) (n : ℕ) (there : AreThere count xs n) where
  pub there_more : n < length xs → get_or xs n 0 < count → (i s : ℕ) → i < suc n → slice_get xs i ≡ Some s → s < count
  there_more within less i s below at = by (cases_lt i n)
    where
      by : (i < n) ⊎ (n ≤ i) → s < count
      by (inl before) = there i s before at
      by (inr from) =
          let same : i ≡ n = omega (arith, below, from) in
          let here : slice_get xs n ≡ Some s = subst (λ j. slice_get xs j ≡ Some s) same at in
          subst (λ t. t < count) (unsome (get_or xs n 0) s (sym (slice_get-get_or xs n 0 within) ∙ here)) less

  pub strays_here : n < length xs → count ≤ get_or xs n 0 → IsStray count xs (suc n)
  strays_here within past = record {
    before = n;
    counted = refl;
    item = get_or xs n 0;
    stands = slice_get-get_or xs n 0 within;
    strays = past;
    first = there;
  }

  pub there_all : length xs ≤ n → AllThere count xs
  there_all whole i s below at = there i s (omega (arith, whole, below)) at
