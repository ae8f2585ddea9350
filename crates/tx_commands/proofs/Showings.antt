-- A showing and a drawing, from their steps.
use Rattle.std.proofs.Common.{◌≡◌, ◌⊎◌, ◌≤◌, inl, inr, ℕ, zero, suc, List, Bool, true, false, Err, Bor, IsTrue, refl, subst, ◌∙◌, arith}
use Rattle.report_check.specs.Verdicts.{HasVerdict}
use Rattle.report_check.specs.declared.verdict.Verdict.TheVariants.{No, Yes}
use Rattle.report_judge.specs.Judging.{HasCheckCause}
use Rattle.report_judge.specs.declared.reading.CheckFault.TheVariants as judging
use Rattle.report_text.specs.Verdicts.{spelled_verdict}
use Rattle.report_shows.specs.Shown.{IsDrawing, IsShow}
use Rattle.tree_lines.specs.declared.lining.Choice.{Choice}
use Rattle.program_words.specs.Faults.{IsSaid, spelled_fault}
use Rattle.program_words.specs.Tellings.{Accounts, IsGiven, IsUngiven}
use Rattle.program_words.specs.declared.fault.Fault.TheVariants.{CannotRead, CannotWrite, NoMemory}
use Rattle.program_words.proofs.Exports.{fault_accounts}
use Rattle.tx_commands.specs.Programs.{AccountsFor, HasVerdictAt, IsCondemned}
use Rattle.tx_machine.specs.Runs.{IsUntouched}
use Rattle.tx_commands.specs.Shows.{AccountsForShow, Draws, HasDrawing, HasShow, IsFoundReport, IsLacking, IsToldUnfit, IsUndrawn, IsUnmade, IsUnshown, Shows}
use Rattle.tx_machine.specs.Texts.{HasFile}
use Rattle.tx_machine.specs.Worlds.{State, World, state}

-- ---- no report

module _ {H T P N W E : Type 0} (o : World H T P N W E) (before after : State H W E) (file : List ℕ) (status : ℕ) (is : status ≡ 1) where
  -- the verdict is no, and was told or not
  pub told_no : (number : ℕ) (told : Bool) → HasVerdictAt o before after file (No number)
      → (IsTrue told → IsGiven o.out o.err before.out after.out before.err after.err (spelled_verdict (No number)))
      → (told ≡ false → IsUngiven o.out o.err before.out after.out before.err after.err (spelled_verdict (No number)))
      → IsToldUnfit o before after file status
  told_no number true judged given ungiven =
      let condemned : IsCondemned o before after file = record { number = number; judged = judged; given = given refl } in
      record { failed = is; unfit = inl condemned; accounts = inl (is, condemned) }
  told_no number false judged given ungiven =
      let not_given = ungiven refl in
      record {
        failed = is;
        unfit = inr (inl (record { number = number; judged = judged; ungiven = not_given }));
        accounts = inr (fault_accounts o.out o.err after.out before.err after.err CannotWrite status not_given.said is);
      }

  -- what is said of the two writers where there is no report is said of a showing too
  pub shown_accounts : (choice : Choice) (strict : Bool) → AccountsFor o before after file status
      → AccountsForShow o before after file choice strict status
  shown_accounts choice strict (inl (one, condemned)) = inl (one, inl condemned)
  shown_accounts choice strict (inr accounts) = inr accounts

module _ {H T P N W E : Type 0} (o : World H T P N W E) (host host' : H) (out : W) (err err' : E) (file : Bor (List ℕ)) (status : ℕ) (is : status ≡ 1) where
  -- the file was not found, or not read to its end
  pub told_unread : o.host.finds host host' file.now (Err (record {}))
      ⊎ HasFile o.host host host' file.now (λ old new. HasCheckCause o.file old new judging.Read)
      → IsSaid o.err err err' (spelled_fault (CannotRead file))
      → IsToldUnfit o (state host out err) (state host' out err') file.now status
  told_unread cause said = record {
    failed = is;
    unfit = inr (inr (record { same = refl; cause = inl (record { cause = cause; said = said }) }));
    accounts = inr (fault_accounts o.out o.err out err err' (CannotRead file) status said is);
  }

  -- memory ran out while it was read
  pub told_starved : HasFile o.host host host' file.now (λ old new. HasCheckCause o.file old new judging.NoMemory)
      → IsSaid o.err err err' (spelled_fault NoMemory)
      → IsToldUnfit o (state host out err) (state host' out err') file.now status
  told_starved asked said = record {
    failed = is;
    unfit = inr (inr (record { same = refl; cause = inr (record { asked = asked; said = said }) }));
    accounts = inr (fault_accounts o.out o.err out err err' NoMemory status said is);
  }

-- what was given and passed on accounts for the two writers
pub passed_accounts : {H T P N W E : Type 0} (o : World H T P N W E) (before after : State H W E) (bytes : List ℕ)
    → IsGiven o.out o.err before.out after.out before.err after.err bytes → Accounts o.out o.err after.out before.err after.err 0
passed_accounts o before after bytes given = record {
  passed = λ _. given.passed;
  silent = λ _. given.silent;
  failed = λ is. absurd (omega (arith, is));
  misused = λ is. absurd (omega (arith, is));
}

-- ---- behind the report

module _ {H T P N W E : Type 0} (o : World H T P N W E) (host host' : H) (out out' out'' : W) (err err' err'' : E) (file bytes : List ℕ)
    (found : IsFoundReport o (state host out err) (state host' out' err') file bytes) where
  given_then : (ys : List ℕ) → IsGiven o.out o.err out' out'' err' err'' ys → IsGiven o.out o.err out out'' err err'' ys
  given_then ys given =
      subst (λ (w : W). IsGiven o.out o.err w out'' err err'' ys) found.unwritten
      (subst (λ (e : E). IsGiven o.out o.err out' out'' e err'' ys) found.silent given)

  ungiven_then : (ys : List ℕ) → IsUngiven o.out o.err out' out'' err' err'' ys → IsUngiven o.out o.err out out'' err err'' ys
  ungiven_then ys ungiven =
      subst (λ (w : W). IsUngiven o.out o.err w out'' err err'' ys) found.unwritten
      (subst (λ (e : E). IsUngiven o.out o.err out' out'' e err'' ys) found.silent ungiven)

  -- what was said since was said at first
  pub said_then : (ys : List ℕ) → IsSaid o.err err' err'' ys → IsSaid o.err err err'' ys
  said_then ys said = subst (λ (e : E). IsSaid o.err e err'' ys) found.silent said

  -- memory ran out
  pub unmade : out'' ≡ out' → IsSaid o.err err' err'' (spelled_fault NoMemory)
      → IsUntouched out out'' (IsUnmade o (state host out err) (state host' out'' err'') file)
  unmade same said = record {
    same = same ∙ found.unwritten;
    cause = record {
      bytes = bytes;
      report = found.report;
      said = subst (λ (e : E). IsSaid o.err e err'' (spelled_fault NoMemory)) found.silent said;
    };
  }

  module _ (choice : Choice) (strict all_done : Bool) (lines : List ℕ) (show : IsShow choice bytes lines all_done) where
    has : HasShow o (state host out err) (state host' out'' err'') file choice lines all_done
    has = record { bytes = bytes; report = found.report; show = show }

    pub shows : IsGiven o.out o.err out' out'' err' err'' lines → (IsTrue strict → IsTrue all_done)
        → Shows o (state host out err) (state host' out'' err'') file choice strict
    shows given strictly = record {
      lines = lines;
      all_done = all_done;
      shown = has;
      given = given_then lines given;
      strictly = strictly;
    }

    pub lacking : IsGiven o.out o.err out' out'' err' err'' lines → IsTrue strict → all_done ≡ false
        → IsLacking o (state host out err) (state host' out'' err'') file choice strict
    lacking given strictly none = record {
      lines = lines;
      shown = record { bytes = bytes; report = found.report; show = subst (λ (b : Bool). IsShow choice bytes lines b) none show };
      given = given_then lines given;
      strictly = strictly;
    }

    pub unshown : IsUngiven o.out o.err out' out'' err' err'' lines
        → IsUnshown o (state host out err) (state host' out'' err'') file choice
    unshown ungiven = record {
      lines = lines;
      all_done = all_done;
      shown = has;
      ungiven = ungiven_then lines ungiven;
    }

  module _ (picture : List ℕ) (drawing : IsDrawing bytes picture) where
    drawn : HasDrawing o (state host out err) (state host' out'' err'') file picture
    drawn = record { bytes = bytes; report = found.report; drawing = drawing }

    pub draws : IsGiven o.out o.err out' out'' err' err'' picture
        → Draws o (state host out err) (state host' out'' err'') file
    draws given = record { picture = picture; drawn = drawn; given = given_then picture given }

    pub undrawn : IsUngiven o.out o.err out' out'' err' err'' picture
        → IsUndrawn o (state host out err) (state host' out'' err'') file
    undrawn ungiven = record { picture = picture; drawn = drawn; ungiven = ungiven_then picture ungiven }

-- ---- how lines that were given account for the two writers

module _ {H T P N W E : Type 0} (o : World H T P N W E) (before after : State H W E) (file : List ℕ) (choice : Choice) (strict : Bool) where
  pub given_accounts : (status : ℕ) (lines : List ℕ) → status ≤ 1
      → IsGiven o.out o.err before.out after.out before.err after.err lines
      → (status ≡ 1 → IsLacking o before after file choice strict)
      → AccountsForShow o before after file choice strict status
  given_accounts zero lines bound given lacks = inr (passed_accounts o before after lines given)
  given_accounts (suc zero) lines bound given lacks = inl (refl, inr (lacks refl))
  given_accounts (suc (suc n)) lines bound given lacks = absurd (omega (arith, bound))

module _ {H T P N W E : Type 0} (o : World H T P N W E) (host host' : H) (out out' out'' : W) (err err' err'' : E) (file bytes : List ℕ)
    (found : IsFoundReport o (state host out err) (state host' out' err') file bytes) where
  -- the lines of the report were given
  pub lines_accounts : (choice : Choice) (strict all_done : Bool) (rs ys lines : List ℕ) (status : ℕ) → rs ≡ bytes → ys ≡ lines
      → (HasVerdict rs Yes → IsShow choice rs lines all_done) → IsGiven o.out o.err out' out'' err' err'' ys
      → status ≤ 1 → (status ≡ 1 → IsTrue strict) → (status ≡ 1 → all_done ≡ false)
      → AccountsForShow o (state host out err) (state host' out'' err'') file choice strict status
  lines_accounts choice strict all_done rs ys lines status read spelled shown given bound strictly undone =
      let show : HasVerdict bytes Yes → IsShow choice bytes lines all_done =
      subst (λ (bs : List ℕ). HasVerdict bs Yes → IsShow choice bs lines all_done) read shown in
      let whole : IsGiven o.out o.err out' out'' err' err'' lines = subst (λ (bs : List ℕ). IsGiven o.out o.err out' out'' err' err'' bs) spelled given in
      given_accounts o (state host out err) (state host' out'' err'') file choice strict status lines bound
      (given_then o host host' out out' out'' err err' err'' file bytes found lines whole)
      (λ is. lacking o host host' out out' out'' err err' err'' file bytes found choice strict all_done lines (show found.report.taken.verdict) whole (strictly is) (undone is))

  -- the picture of the report was not given
  pub picture_undrawn : (rs ys picture : List ℕ) → rs ≡ bytes → ys ≡ picture → (HasVerdict rs Yes → IsDrawing rs picture)
      → IsUngiven o.out o.err out' out'' err' err'' ys → IsUndrawn o (state host out err) (state host' out'' err'') file
  picture_undrawn rs ys picture read spelled drawing ungiven =
      let drawn : HasVerdict bytes Yes → IsDrawing bytes picture =
      subst (λ (bs : List ℕ). HasVerdict bs Yes → IsDrawing bs picture) read drawing in
      undrawn o host host' out out' out'' err err' err'' file bytes found picture (drawn found.report.taken.verdict)
      (subst (λ (bs : List ℕ). IsUngiven o.out o.err out' out'' err' err'' bs) spelled ungiven)
