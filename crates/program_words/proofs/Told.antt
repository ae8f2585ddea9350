-- Which line the error writer got, by the exit status.
use Rattle.std.proofs.Common.{◌≡◌, ◌≤◌, ℕ, List, arith}
use Rattle.std.specs.Prelude.{◌≢◌, Result, Ok, Err, IfOk}
use Rattle.txn_bytes.specs.Written.{Writer}
use Rattle.line_language.specs.Report.{line}
use Rattle.program_words.specs.Faults.{IsSaid, spelled_fault}
use Rattle.program_words.specs.Tellings.{Accounts, HasFaultLine}
use Rattle.program_words.specs.declared.fault.Fault.{Fault}
use Rattle.program_words.specs.declared.fault.Fault.TheVariants.{CannotWrite}

module _ {W E : Type 0} (w : Writer W) (e : Writer E) (new : W) (err_old err_new : E) where
  -- the status of a fault which was told accounts for the two writers
  pub line_accounts : (status : ℕ) → HasFaultLine e err_old err_new → status ≡ 1
      → Accounts w e new err_old err_new status
  line_accounts status told is = record {
    passed = λ done. absurd (omega (arith, is, done));
    silent = λ done. absurd (omega (arith, is, done));
    failed = λ _. told;
    misused = λ misused. absurd (omega (arith, is, misused));
  }

  pub fault_accounts : (fault : Fault) (status : ℕ) → IsSaid e err_old err_new (spelled_fault fault)
      → status ≡ 1 → Accounts w e new err_old err_new status
  fault_accounts fault status said is = line_accounts status (record { fault = fault; said = said }) is

  -- so does that of an output which was asked to pass on what it held
  pub finish_accounts : (old : W) (status : ℕ) → (status ≡ 0 → w.flushes old new (Ok tt)) → (status ≡ 0 → err_new ≡ err_old)
      → (status ≢ 0 → IsSaid e err_old err_new (spelled_fault CannotWrite)) → status ≤ 1
      → Accounts w e new err_old err_new status
  finish_accounts old status passed silent told bound = record {
    passed = λ is. record { before = old; asked = passed is };
    silent = silent;
    failed = λ is. record { fault = CannotWrite; said = told (λ done. absurd (omega (arith, is, done))) };
    misused = λ is. absurd (omega (arith, is, bound));
  }

  -- and that of words that are no command line
  pub misuse_accounts : (text : List ℕ) (status : ℕ) → IsSaid e err_old err_new (line text) → status ≡ 2 → Accounts w e new err_old err_new status
  misuse_accounts text status said is = record {
    passed = λ done. absurd (omega (arith, is, done));
    silent = λ done. absurd (omega (arith, is, done));
    failed = λ failed. absurd (omega (arith, is, failed));
    misused = λ _. record { text = text; said = said };
  }

-- what holds anyway holds at an Ok
pub if_ok : {T F Q : Type 0} (r : Result T F) → Q → IfOk r (λ x. Q)
if_ok (Ok x) q = q
if_ok (Err e) q = tt
