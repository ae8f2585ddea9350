-- Sets of numbers below 64, one bit for each.
use Rattle.std.proofs.Common.{◌≡◌, ◌<◌, ◌≤◌, ◌+◌, ◌-◌, ◌*◌, ◌%◌, ◌^◌, ◌/◌, ℕ, ◌⊎◌, inl, inr, ⊎_elim, sym, ap, subst, ◌∙◌, arith, w64, bit_and, bit_or, shr-shr}
use Rattle.std.specs.Int.{bit_at, bit_not, trailing_zeros}
use Rattle.std.proofs.lemmas.Bool.{cases_eq, cases_lt}
use Rattle.std.proofs.Math.Nat.{div-le_self}
use Rattle.std.proofs.lemmas.Nat.Bits.{bit_at-zero, bit_at_above, bit_at_and, bit_at_clear_other, bit_at_clear_same, bit_at_set_other, bit_at_set_same, bit_at-trailing_zeros, bit_at-lt}

-- what is not among them without k
pub lacks_cleared : (n k u : ℕ) → n < 2 ^ 64 → k < 64 → bit_at (bit_and n (bit_not w64 (1 * 2 ^ k % 2 ^ 64))) u ≡ 0 → (u ≡ k) ⊎ (bit_at n u ≡ 0)
lacks_cleared n k u fits within out = ⊎_elim
    (λ same. inl same)
    (λ other. inr (⊎_elim
    (λ low. sym (bit_at_clear_other w64 n k within u low other) ∙ out)
    (λ high. bit_at_above n 64 u fits high)
    (cases_lt u 64)))
    (cases_eq u k)

-- and what is
pub has_cleared : (n k u : ℕ) → k < 64 → bit_at (bit_and n (bit_not w64 (1 * 2 ^ k % 2 ^ 64))) u ≡ 1 → (bit_at n u ≡ 1) × (u ≡ k → ⊥)
has_cleared n k u within is = (least, own)
  where
    mask : ℕ
    mask = bit_not w64 (1 * 2 ^ k % 2 ^ 64)

    least : bit_at n u ≡ 1
    least = omega (arith, bit_at_and n mask u, is, bit_at-lt n u)

    own : u ≡ k → ⊥
    own same =
        let there : bit_at (bit_and n mask) k ≡ 1 = subst (λ v. bit_at (bit_and n mask) v ≡ 1) same is in
        omega (arith, bit_at_clear_same w64 n k within, there)

-- what is not among them with k
pub lacks_put : (n k u : ℕ) → k < 64 → bit_at (bit_or n (1 * 2 ^ k % 2 ^ 64)) u ≡ 0 → (bit_at n u ≡ 0) × (u ≡ k → ⊥)
lacks_put n k u within out = ⊎_elim
    (λ same. absurd (own same))
    (λ other. (sym (bit_at_set_other w64 n k within u other) ∙ out, other))
    (cases_eq u k)
  where
    own : u ≡ k → ⊥
    own same =
        let none : bit_at (bit_or n (1 * 2 ^ k % 2 ^ 64)) k ≡ 0 = subst (λ v. bit_at (bit_or n (1 * 2 ^ k % 2 ^ 64)) v ≡ 0) same out in
        omega (arith, bit_at_set_same w64 n k within, none)

-- and what is
pub has_put : (n k u : ℕ) → k < 64 → bit_at (bit_or n (1 * 2 ^ k % 2 ^ 64)) u ≡ 1 → (u ≡ k) ⊎ (bit_at n u ≡ 1)
has_put n k u within is = ⊎_elim
    (λ same. inl same)
    (λ other. inr (sym (bit_at_set_other w64 n k within u other) ∙ is))
    (cases_eq u k)

-- where none is left from one on, none from there on is among them
pub none_from : (n from u : ℕ) → n / 2 ^ from ≡ 0 → from ≤ u → bit_at n u ≡ 0
none_from n from u none past =
    let place : from + (u - from) ≡ u = omega (arith, past) in
    ap (bit_at n) (sym place) ∙ ap (λ x. x % 2) (sym (shr-shr n from (u - from))) ∙ ap (λ x. bit_at x (u - from)) none ∙ bit_at-zero (u - from)

-- nor is one before the first from there on
pub none_before : (n from u : ℕ) → n < 2 ^ 64 → 0 < n / 2 ^ from → n / 2 ^ from < 2 ^ 64 → from ≤ u → u < from + trailing_zeros w64 (n / 2 ^ from) → bit_at n u ≡ 0
none_before n from u fits some small past less =
    let place : from + (u - from) ≡ u = omega (arith, past) in
    ap (bit_at n) (sym place) ∙ ap (λ x. x % 2) (sym (shr-shr n from (u - from)))
    ∙ (bit_at-trailing_zeros w64 (n / 2 ^ from) some small).2 (u - from) (omega (arith, past, less))

-- ---- a word that is shifted down

pub shorter : (n from : ℕ) → n < 2 ^ 64 → n / 2 ^ from < 2 ^ 64
shorter n from fits = omega (arith, fits, div-le_self n (2 ^ from))

-- the first from there on is among them
pub first_is : (n from : ℕ) → n < 2 ^ 64 → 0 < n / 2 ^ from → bit_at n (from + trailing_zeros w64 (n / 2 ^ from)) ≡ 1
first_is n from fits some =
    let place = trailing_zeros w64 (n / 2 ^ from) in
    ap (λ x. x % 2) (sym (shr-shr n from place)) ∙ (bit_at-trailing_zeros w64 (n / 2 ^ from) some (shorter n from fits)).1

-- and a number of the word
pub within_word : (n from : ℕ) → n < 2 ^ 64 → 0 < n / 2 ^ from → from + trailing_zeros w64 (n / 2 ^ from) < 64
within_word n from fits some = ⊎_elim
    (λ low. low)
    (λ high. omega (arith, first_is n from fits some, bit_at_above n 64 (from + trailing_zeros w64 (n / 2 ^ from)) fits high))
    (cases_lt (from + trailing_zeros w64 (n / 2 ^ from)) 64)
