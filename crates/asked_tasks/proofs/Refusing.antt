-- Why the words come to nothing.
use Rattle.std.proofs.Common.{◌≡◌, ℕ, List, inr, arith}
use Rattle.txn_bytes.specs.Written.{Writer}
use Rattle.line_language.specs.Report.{line}
use Rattle.program_words.specs.Faults.{IsSaid}
use Rattle.asked_tasks.specs.Refused.{IsRefused}

module _ {E : Type 0} (e : Writer E) (err_old err_new : E) (Unwanted : Type 0) (status : ℕ) where
  -- the text was told of words that want nothing
  pub told : Unwanted → (text : List ℕ) → IsSaid e err_old err_new (line text) → status ≡ 2
      → IsRefused e err_old err_new Unwanted status
  told none text said is = record {
    failed = λ failed. absurd (omega (arith, is, failed));
    misused = λ _. record { text = text; said = said };
    unwanted = λ _. none;
    bounded = inr is;
  }
