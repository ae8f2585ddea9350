use Rattle.std.proofs.Common.{◌≡◌, ◌+◌, ◌/◌, ◌%◌, ◌<◌, ◌≤◌, ℕ, [], ◌∷◌, sym, ◌∙◌, arith}
use Rattle.std.specs.Prelude.{decimal}
use Rattle.line_language.proofs.FewDigits.{two, three}
use Rattle.line_language.proofs.digits.three_digits.Goals as goal

pub returns : goal.returns
returns c =
    let n : ℕ = c.args.number in
    let low : 10 ≤ n / 10 = omega (arith, c.requires.low) in
    let high : n / 10 < 100 = omega (arith, c.requires.high) in
    let front : decimal (n / 10) ≡ (48 + n / 10 / 10) ∷ (48 + n / 10 % 10) ∷ [] = two (n / 10) low high in
    rw (c.two_digits-front.ensures ∙ front, c.digit-ones.ensures)
    (three n (48 + n / 10 / 10) (48 + n / 10 % 10) c.requires.low c.requires.high (sym front))
