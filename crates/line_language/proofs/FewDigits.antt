-- The digits of small numbers.
use Rattle.std.proofs.Common.{◌≡◌, ℕ, ◌+◌, ◌/◌, ◌%◌, ◌<◌, ◌≤◌, [], ◌∷◌, ◌++◌, sym, ap, ◌∙◌, arith}
use Rattle.std.specs.Prelude.{decimal}
use Rattle.std.proofs.lemmas.Fmt.{decimal_digit, decimal_step}

pub two : (n : ℕ) → 10 ≤ n → n < 100 → decimal n ≡ (48 + n / 10) ∷ (48 + n % 10) ∷ []
two n low high =
    decimal_step n low (omega arith) ∙ ap (λ ds. ds ++ ((48 + n % 10) ∷ [])) (decimal_digit (n / 10) (omega arith))

-- the digits before the last, and the last
pub three : (n a b : ℕ) → 100 ≤ n → n < 1000 → a ∷ b ∷ [] ≡ decimal (n / 10) → a ∷ b ∷ (48 + n % 10) ∷ [] ≡ decimal n
three n a b low high front =
    ap (λ ds. ds ++ ((48 + n % 10) ∷ [])) front ∙ sym (decimal_step n (omega arith) (omega arith))
