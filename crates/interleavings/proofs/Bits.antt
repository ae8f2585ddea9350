-- Sets of numbers below 64, one bit for each.
use Rattle.std.proofs.Common.{◌≡◌, ◌<◌, ◌≤◌, ◌^◌, ℕ, ◌⊎◌, inl, inr, ⊎_elim, arith, w64, bit_and, bit_or}
use Rattle.std.specs.Int.{bit_at, bit_not}
use Rattle.std.proofs.lemmas.Bool.{cases_lt}
use Rattle.std.proofs.lemmas.Nat.Bits.{bit_at_above, bit_at_and, bit_at-lt, bit_at_not, bit_at_or}

-- what is not among two sets
pub neither : (a b u : ℕ) → bit_at (bit_or a b) u ≡ 0 → (bit_at a u ≡ 0) × (bit_at b u ≡ 0)
neither a b u out = (omega (arith, bit_at_or a b u, out), omega (arith, bit_at_or a b u, out))

-- nor among both of two sets
pub either : (a b u : ℕ) → bit_at (bit_and a b) u ≡ 0 → (bit_at a u ≡ 0) ⊎ (bit_at b u ≡ 0)
either a b u out = ⊎_elim
    (λ (some : 0 < bit_at a u). inr (omega (arith, bit_at_and a b u, some, out)))
    (λ (none : bit_at a u ≤ 0). inl (omega (arith, none)))
    (cases_lt 0 (bit_at a u))

-- what is not among a set without others was not, or is one of those
pub left_or : (n m u : ℕ) → n < 2 ^ 64 → m < 2 ^ 64 → bit_at (bit_and n (bit_not w64 m)) u ≡ 0 → (bit_at n u ≡ 0) ⊎ (bit_at m u ≡ 1)
left_or n m u fits less out = ⊎_elim
    (λ (low : u < 64). ⊎_elim
    (λ (some : 0 < bit_at n u). inr (omega (arith, bit_at_and n (bit_not w64 m) u, bit_at_not w64 m u less low, bit_at-lt m u, some, out)))
    (λ (none : bit_at n u ≤ 0). inl (omega (arith, none)))
    (cases_lt 0 (bit_at n u)))
    (λ (high : 64 ≤ u). inl (bit_at_above n 64 u fits high))
    (cases_lt u 64)

-- what is of one set and of neither of two others
pub of_neither : (a b c u : ℕ) → a < 2 ^ 64 → b < 2 ^ 64 → c < 2 ^ 64 → bit_at (bit_and (bit_and (bit_not w64 a) (bit_not w64 b)) c) u ≡ 1
    → (bit_at a u ≡ 0) × (bit_at b u ≡ 0) × (bit_at c u ≡ 1)
of_neither a b c u fits fits_too within is =
    let both = bit_at_and (bit_and (bit_not w64 a) (bit_not w64 b)) c u in
    let inner = bit_at_and (bit_not w64 a) (bit_not w64 b) u in
    ⊎_elim
    (λ (low : u < 64). (
      omega (arith, both, inner, bit_at_not w64 a u fits low, bit_at-lt a u, bit_at-lt c u, is),
      omega (arith, both, inner, bit_at_not w64 b u fits_too low, bit_at-lt b u, bit_at-lt c u, is),
      omega (arith, both, bit_at-lt c u, is),
    ))
    (λ (high : 64 ≤ u). absurd (omega (arith, both, bit_at_above c 64 u within high, is)))
    (cases_lt u 64)
