-- Sets of places, a bit for each below 63 and one for all others.
use Rattle.std.proofs.Common.{◌≡◌, ◌<◌, ◌≤◌, ◌+◌, ◌-◌, ◌*◌, ◌%◌, ◌^◌, ◌/◌, ℕ, min, ⊎_elim, sym, ap, subst, ◌∙◌, arith, w64, bit_or, shr-shr}
use Rattle.std.specs.Int.{bit_at, trailing_zeros}
use Rattle.std.proofs.lemmas.Bool.{cases_eq, cases_lt}
use Rattle.std.proofs.Math.Nat.{div-le_self}
use Rattle.std.proofs.lemmas.Nat.Bits.{bit_at-zero, bit_at_above, bit_at_or, bit_at_set_other, bit_at_set_same, bit_at-trailing_zeros}
use Rattle.wait_cycles.specs.Sieve.{HasPlace, LacksPlace}

-- ---- with one more

module _ (n place k : ℕ) (is : k ≡ min place 63) where
  pub put : HasPlace (bit_or n (1 * 2 ^ k % 2 ^ 64)) place
  put = subst (λ j. bit_at (bit_or n (1 * 2 ^ k % 2 ^ 64)) j ≡ 1) is (bit_at_set_same w64 n k (omega (arith, is)))

  pub kept : (p : ℕ) → HasPlace n p → HasPlace (bit_or n (1 * 2 ^ k % 2 ^ 64)) p
  kept p has = ⊎_elim
      (λ same. subst (λ j. bit_at (bit_or n (1 * 2 ^ k % 2 ^ 64)) j ≡ 1) (sym same) (bit_at_set_same w64 n k (omega (arith, is))))
      (λ other. bit_at_set_other w64 n k (omega (arith, is)) (min p 63) other ∙ has)
      (cases_eq (min p 63) k)

-- ---- in two sets

pub neither : (a b p : ℕ) → LacksPlace (bit_or a b) p → LacksPlace a p × LacksPlace b p
neither a b p lacks = (omega (arith, bit_at_or a b (min p 63), lacks), omega (arith, bit_at_or a b (min p 63), lacks))

pub not_both : (n p : ℕ) → HasPlace n p → LacksPlace n p → ⊥
not_both n p has lacks = omega (arith, has, lacks)

pub lacks_all : (p : ℕ) → LacksPlace 0 p
lacks_all p = bit_at-zero (min p 63)

-- ---- the first from a place on

-- where none is left from one on, none from there on is in the set
none_from : (n from u : ℕ) → n / 2 ^ from ≡ 0 → from ≤ u → bit_at n u ≡ 0
none_from n from u none past =
    let place : from + (u - from) ≡ u = omega (arith, past) in
    ap (bit_at n) (sym place) ∙ ap (λ x. x % 2) (sym (shr-shr n from (u - from))) ∙ ap (λ x. bit_at x (u - from)) none ∙ bit_at-zero (u - from)

pub lacks_near : (n from p : ℕ) → from < 63 → n / 2 ^ from ≡ 0 → from ≤ p → LacksPlace n p
lacks_near n from p near none past = none_from n from (min p 63) none (omega (arith, near, past))

pub lacks_far : (n p : ℕ) → n / 2 ^ 63 ≡ 0 → 63 ≤ p → LacksPlace n p
lacks_far n p none past = none_from n 63 (min p 63) none (omega (arith, past))

module _ (n from : ℕ) (fits : n < 2 ^ 64) (some : 0 < n / 2 ^ from) where
  abbrev pub rest : ℕ
  rest = n / 2 ^ from

  small : rest < 2 ^ 64
  small = omega (arith, fits, div-le_self n (2 ^ from))

  found : (trailing_zeros w64 rest < 64) × (bit_at rest (trailing_zeros w64 rest) ≡ 1) × ((i : ℕ) → i < trailing_zeros w64 rest → bit_at rest i ≡ 0)
  found = bit_at-trailing_zeros w64 rest some small

  -- it is one of the word
  within_word : from + trailing_zeros w64 rest < 64
  within_word = ⊎_elim
      (λ (low : from + trailing_zeros w64 rest < 64). low)
      (λ (high : 64 ≤ from + trailing_zeros w64 rest).
      let far : bit_at n (from + trailing_zeros w64 rest) ≡ 1 = ap (λ x. x % 2) (sym (shr-shr n from (trailing_zeros w64 rest))) ∙ found.1 in
      absurd (omega (arith, far, bit_at_above n 64 (from + trailing_zeros w64 rest) fits high)))
      (cases_lt (from + trailing_zeros w64 rest) 64)

  pub lacks_before : (p : ℕ) → from ≤ p → p < from + trailing_zeros w64 rest → LacksPlace n p
  lacks_before p past less =
      let place : from + (p - from) ≡ p = omega (arith, past) in
      let own : min p 63 ≡ p = omega (arith, less, within_word) in
      ap (bit_at n) (own ∙ sym place) ∙ ap (λ x. x % 2) (sym (shr-shr n from (p - from)))
      ∙ found.2 (p - from) (omega (arith, past, less))
