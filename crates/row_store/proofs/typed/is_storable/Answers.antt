use Rattle.std.proofs.Common.{arith, refl, leb-true, le-leb}
use Rattle.std.proofs.lemmas.Nat.Bits.{bit_at-zero}
use Rattle.row_store.proofs.typed.is_storable.Goals as goal

pub returns-then-len-gt0 : goal.returns-then-len-gt0
returns-then-len-gt0 c = (
  λ short. record {
    typed = λ k set. absurd (omega (arith, bit_at-zero k, set));
    columns = (omega (arith, c.if-len-gt0.true, c.len.ensures), omega (arith, leb-true _ _ short, c.len-then-len-gt0.ensures));
    numbers = c.if-not-has_no_float.ensures refl;
  },
  λ typed. le-leb _ _ (omega (arith, typed.columns.1, c.len-then-len-gt0.ensures)),
)

pub returns-else-len-gt0 : goal.returns-else-len-gt0
returns-else-len-gt0 c = (λ none. absurd (search arith), λ typed. absurd (omega (arith, typed.columns.0)))
