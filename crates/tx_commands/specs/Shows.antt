-- What the exit status of a showing or a drawing says of the report, of the output and of the error
-- writer.
use Rattle.std.specs.Prelude.{◌≡◌, ◌⊎◌, ℕ, List, Bool, false, IsTrue}
use Rattle.report_check.specs.declared.verdict.Verdict.TheVariants.{No}
use Rattle.report_judge.specs.Judging.{IsReport}
use Rattle.report_text.specs.Verdicts.{spelled_verdict}
use Rattle.report_shows.specs.Shown.{IsDrawing, IsShow}
use Rattle.tree_lines.specs.declared.lining.Choice.{Choice}
use Rattle.program_words.specs.Faults.{IsSaid, spelled_fault}
use Rattle.program_words.specs.Tellings.{Accounts, IsGiven, IsUngiven}
use Rattle.program_words.specs.declared.fault.Fault.TheVariants.{NoMemory}
use Rattle.program_words.specs.declared.status.TheConstants.{FAILED}
use Rattle.tx_commands.specs.Programs.{AccountsFor, HasVerdictAt, IsCondemned, IsUnjudged, IsUnreadReport}
use Rattle.tx_machine.specs.Runs.{IsUntouched}
use Rattle.tx_machine.specs.Texts.{HasFile}
use Rattle.tx_machine.specs.Worlds.{State, World}

module _ {H T P N W E : Type 0} (o : World H T P N W E) (before after : State H W E)
    (file : List ℕ) where
  -- ---- the report

  -- the file holds these bytes, and they are a report with the verdict yes
  abbrev pub HoldsReport : List ℕ → Type 0
  HoldsReport bytes =
      HasFile o.host before.host after.host file (λ old new. IsReport o.file old new bytes)

  -- it was read, and nothing was asked of the two writers
  pub record IsFoundReport (bytes : List ℕ) : Type 0 where
    pub report : HoldsReport bytes
    pub unwritten : after.out ≡ before.out
    pub silent : after.err ≡ before.err

  -- a verdict no that the output did not take, or did not pass on
  pub record IsUnsaidNo : Type 0 where
    pub number : ℕ
    pub judged : HasVerdictAt o before after file (No number)
    pub ungiven : IsUngiven o.out o.err before.out after.out before.err after.err
        (spelled_verdict (No number))

  -- the output got a verdict no, or did not take it; or the file was not read, and nothing was
  -- asked of the output
  abbrev pub HasNoReport : Type 0
  HasNoReport = IsCondemned o before after file
      ⊎ (IsUnsaidNo
      ⊎ IsUntouched before.out after.out
      (IsUnreadReport o before after file ⊎ IsUnjudged o before after file))

  -- which was told by this exit status
  pub record IsToldUnfit (status : ℕ) : Type 0 where
    pub failed : status ≡ FAILED
    pub unfit : HasNoReport
    pub accounts : AccountsFor o before after file status

  -- memory ran out behind the report
  pub record IsUnmade : Type 0 where
    pub bytes : List ℕ
    pub report : HoldsReport bytes
    pub said : IsSaid o.err before.err after.err (spelled_fault NoMemory)

  -- ---- lines

  -- these are the lines of the report in this file, and this says whether all was done in it
  pub record HasShow (choice : Choice) (lines : List ℕ) (all_done : Bool) : Type 0 where
    pub bytes : List ℕ
    pub report : HoldsReport bytes
    pub show : IsShow choice bytes lines all_done

  -- the output got them. If that was to be told by the status, all was done
  pub record Shows (choice : Choice) (strict : Bool) : Type 0 where
    pub lines : List ℕ
    pub all_done : Bool
    pub shown : HasShow choice lines all_done
    pub given : IsGiven o.out o.err before.out after.out before.err after.err lines
    pub strictly : IsTrue strict → IsTrue all_done

  -- the output got them, and not all was done, which was to be told by the status
  pub record IsLacking (choice : Choice) (strict : Bool) : Type 0 where
    pub lines : List ℕ
    pub shown : HasShow choice lines false
    pub given : IsGiven o.out o.err before.out after.out before.err after.err lines
    pub strictly : IsTrue strict

  -- the output did not take them, or did not pass them on
  pub record IsUnshown (choice : Choice) : Type 0 where
    pub lines : List ℕ
    pub all_done : Bool
    pub shown : HasShow choice lines all_done
    pub ungiven : IsUngiven o.out o.err before.out after.out before.err after.err lines

  -- there is no report; not all was done in it; or its lines were not given, or not made
  abbrev pub ShowsNot : Choice → Bool → Type 0
  ShowsNot choice strict = HasNoReport
      ⊎ (IsLacking choice strict
      ⊎ (IsUnshown choice ⊎ IsUntouched before.out after.out IsUnmade))

  -- what this exit status says of the two writers: at the second the output may have got a verdict
  -- no, or the lines of a report in which not all was done
  abbrev pub AccountsForShow : Choice → Bool → ℕ → Type 0
  AccountsForShow choice strict status =
      (status ≡ FAILED) × (IsCondemned o before after file ⊎ IsLacking choice strict)
      ⊎ Accounts o.out o.err after.out before.err after.err status

  -- ---- a picture

  -- this is the picture of the report in this file
  pub record HasDrawing (picture : List ℕ) : Type 0 where
    pub bytes : List ℕ
    pub report : HoldsReport bytes
    pub drawing : IsDrawing bytes picture

  -- the output got it
  pub record Draws : Type 0 where
    pub picture : List ℕ
    pub drawn : HasDrawing picture
    pub given : IsGiven o.out o.err before.out after.out before.err after.err picture

  -- the output did not take it, or did not pass it on
  pub record IsUndrawn : Type 0 where
    pub picture : List ℕ
    pub drawn : HasDrawing picture
    pub ungiven : IsUngiven o.out o.err before.out after.out before.err after.err picture

  -- there is no report, or its picture was not given, or not made
  abbrev pub DrawsNot : Type 0
  DrawsNot = HasNoReport ⊎ (IsUndrawn ⊎ IsUntouched before.out after.out IsUnmade)
