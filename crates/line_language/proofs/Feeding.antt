-- The first line feed, as the search for a byte finds it.
use Rattle.std.proofs.Common.{◌≡◌, ℕ, List, length, Option, Some, None, Bool, true, false, eqb, refl, arith}
use Rattle.std.specs.Prelude.{position}
use Rattle.std.specs.List.{position_or_len}
use Rattle.std.proofs.lemmas.Bool.{lt-ltb, le-ltb}
use Rattle.std.proofs.lemmas.List.Sums.{position_or_len_is}
use Rattle.memchr.specs.Find.{IsFirstByte, is_byte}

fails : (t : Bool) → ¬ (t ≡ true) → t ≡ false
fails true h = absurd (h refl)
fails false h = refl

pub found : (bs : List ℕ) (r : Option ℕ) → IsFirstByte (is_byte 10) bs r → r ≡ position (λ b. eqb b 10) bs
found bs (Some k) h =
    let is : position_or_len (λ b. eqb b 10) bs ≡ k = position_or_len_is (λ b. eqb b 10) bs k 0 (omega (arith, h.0.high)) (λ j l. fails _ (h.0.before j (omega arith) l)) (λ _. h.1) in
    rw (is, lt-ltb k (length bs) h.0.high) refl
found bs None h =
    let is : position_or_len (λ b. eqb b 10) bs ≡ length bs =
    position_or_len_is (λ b. eqb b 10) bs (length bs) 0 (omega arith) (λ j l. fails _ (h j (omega arith) l)) (λ l. absurd (omega (arith, l))) in
    rw (is, le-ltb (length bs) (length bs) (omega arith)) refl
