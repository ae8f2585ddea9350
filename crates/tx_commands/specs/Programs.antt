-- What the exit status of a command that reads says of what it read, of its output, of its store
-- and of the error writer.
use Rattle.std.specs.Prelude.{◌≡◌, ◌⊎◌, ℕ, List, ◌++◌, Some, IsSomeAnd, Err, codes}
use Rattle.line_language.specs.Report.{line}
use Rattle.report_check.specs.declared.verdict.Verdict.{Verdict}
use Rattle.report_check.specs.declared.verdict.Verdict.TheVariants.{No, Yes}
use Rattle.report_judge.specs.Judging.{HasCheckCause, IsVerdictOn}
use Rattle.report_judge.specs.declared.reading.CheckFault.TheVariants as judging
use Rattle.report_text.specs.Verdicts.{spelled_verdict}
use Rattle.program_words.specs.Faults.{IsSaid, spelled_fault}
use Rattle.program_words.specs.Tellings.{Accounts, IsGiven, IsUngiven}
use Rattle.program_words.specs.declared.fault.Fault.TheVariants.{NoMemory}
use Rattle.program_words.specs.declared.status.TheConstants.{FAILED}
use Rattle.session_runs.specs.Listings.{IsListed, IsUnlisted}
use Rattle.tx_machine.specs.Runs.{IsUntouched}
use Rattle.tx_machine.specs.Stores.{HasUsed, IsRefused}
use Rattle.tx_machine.specs.Texts.{HasFile}
use Rattle.tx_machine.specs.Worlds.{State, World}

module _ {H T P N W E : Type 0} (o : World H T P N W E) (before after : State H W E) where
  -- ---- the rows of a database, by the exit status

  -- the output got the lines of the rows of this database
  abbrev pub Lists : List ℕ → Type 0
  Lists path = HasUsed o.host o.memory before.host after.host (Some path)
      (λ store left. IsSomeAnd left
      (λ back. IsListed o.store o.out o.err store back before.out after.out
      before.err after.err))

  -- it did not, or the database was not opened and nothing was asked of the output
  abbrev pub ListsNot : List ℕ → Type 0
  ListsNot path =
      HasUsed o.host o.memory before.host after.host (Some path)
      (λ store left. IsSomeAnd left
      (λ back. IsUnlisted o.store o.out o.err store back before.out after.out
      before.err after.err))
      ⊎ IsUntouched before.out after.out
      (IsRefused o.host before.host after.host o.err before.err after.err path)

  -- ---- a verdict, by the exit status

  -- the report in this file has this verdict
  abbrev pub HasVerdictAt : List ℕ → Verdict → Type 0
  HasVerdictAt file v = HasFile o.host before.host after.host file
      (λ old new. IsVerdictOn o.file old new v)

  -- the verdict yes, which the output got
  abbrev pub IsPassed : List ℕ → Type 0
  IsPassed file = HasVerdictAt file Yes
      × IsGiven o.out o.err before.out after.out before.err after.err (spelled_verdict Yes)

  -- a verdict no, which the output got
  pub record IsCondemned (file : List ℕ) : Type 0 where
    pub number : ℕ
    pub judged : HasVerdictAt file (No number)
    pub given : IsGiven o.out o.err before.out after.out before.err after.err
        (spelled_verdict (No number))

  -- a verdict that the output did not take, or did not pass on
  pub record IsUnsaid (file : List ℕ) : Type 0 where
    pub verdict : Verdict
    pub judged : HasVerdictAt file verdict
    pub ungiven : IsUngiven o.out o.err before.out after.out before.err after.err
        (spelled_verdict verdict)

  -- there is no report from this file: it was not found, or it was not read to its end. A report
  -- may have any number of bytes
  pub record IsUnreadReport (file : List ℕ) : Type 0 where
    pub cause : o.host.finds before.host after.host file (Err (record {}))
        ⊎ HasFile o.host before.host after.host file
        (λ old new. HasCheckCause o.file old new judging.Read)
    pub said : IsSaid o.err before.err after.err (line (codes "tx: cannot read " ++ file))

  -- memory ran out while this file was read
  pub record IsUnjudged (file : List ℕ) : Type 0 where
    pub asked : HasFile o.host before.host after.host file
        (λ old new. HasCheckCause o.file old new judging.NoMemory)
    pub said : IsSaid o.err before.err after.err (spelled_fault NoMemory)

  -- a verdict no; one that was not given; a file that is not there to be judged; or no memory
  abbrev pub IsUnpassed : List ℕ → Type 0
  IsUnpassed file = IsCondemned file
      ⊎ (IsUnsaid file
      ⊎ IsUntouched before.out after.out (IsUnreadReport file ⊎ IsUnjudged file))

  -- what this exit status says of the two writers: at a verdict no the output got that
  abbrev pub AccountsFor : List ℕ → ℕ → Type 0
  AccountsFor file status = (status ≡ FAILED) × IsCondemned file
      ⊎ Accounts o.out o.err after.out before.err after.err status
