-- What two writers were asked, and which line the error writer got.
use Rattle.std.specs.Prelude.{◌≡◌, ◌⊎◌, ℕ, List, Result, Ok, Err}
use Rattle.std.specs.Io.KnownBytes.{Appends}
use Rattle.txn_bytes.specs.Written.{Writer}
use Rattle.txn_bytes.specs.declared.sink.WriteFault.{WriteFault}
use Rattle.line_language.specs.Report.{line}
use Rattle.program_words.specs.Faults.{IsCut, IsSaid, spelled_fault}
use Rattle.program_words.specs.declared.fault.Fault.{Fault}
use Rattle.program_words.specs.declared.fault.Fault.TheVariants.{CannotWrite}
use Rattle.program_words.specs.declared.status.TheConstants.{DONE, FAILED, MISUSED}

-- the writer was last asked to pass on what it held, and this is what it answered
pub record IsFlushed {W : Type 0} (w : Writer W) (new : W)
    (answer : Result (Unit {0}) WriteFault) : Type 0 where
  pub before : W
  pub asked : w.flushes before new answer

module _ {W E : Type 0} (w : Writer W) (e : Writer E) where
  -- the writer answered a fault when it was asked to pass on what it held, and the error writer
  -- got the line of that
  pub record IsUnflushed (new : W) (err_old err_new : E) : Type 0 where
    pub fault : WriteFault
    pub refused : IsFlushed w new (Err fault)
    pub said : IsSaid e err_old err_new (spelled_fault CannotWrite)

  -- the output got these bytes and passed them on, and nothing was asked of the error writer
  pub record IsGiven (old new : W) (err_old err_new : E) (bytes : List ℕ) : Type 0 where
    pub given : Appends (w.contents old) (w.contents new) bytes
    pub passed : IsFlushed w new (Ok tt)
    pub silent : err_new ≡ err_old

  -- the output took a beginning of these bytes and not all, or did not pass them on, and the error
  -- writer got the line of that
  pub record IsUngiven (old new : W) (err_old err_new : E) (bytes : List ℕ) : Type 0 where
    pub cut : IsCut w old new bytes
        ⊎ (Appends (w.contents old) (w.contents new) bytes × IsFlushed w new (Err (record {})))
    pub said : IsSaid e err_old err_new (spelled_fault CannotWrite)

-- ---- by the exit status

module _ {E : Type 0} (e : Writer E) where
  -- the error writer got the line of some fault
  pub record HasFaultLine (err_old err_new : E) : Type 0 where
    pub fault : Fault
    pub said : IsSaid e err_old err_new (spelled_fault fault)

  -- it got some text and a line feed
  pub record HasUsageLine (err_old err_new : E) : Type 0 where
    pub text : List ℕ
    pub said : IsSaid e err_old err_new (line text)

-- What this exit status says of the two writers. At the first the output was last asked to pass on
-- what it held, which it did, and nothing was asked of the error writer
pub record Accounts {W E : Type 0} (w : Writer W) (e : Writer E) (new : W) (err_old err_new : E)
    (status : ℕ) : Type 0 where
  pub passed : status ≡ DONE → IsFlushed w new (Ok tt)
  pub silent : status ≡ DONE → err_new ≡ err_old
  pub failed : status ≡ FAILED → HasFaultLine e err_old err_new
  pub misused : status ≡ MISUSED → HasUsageLine e err_old err_new
