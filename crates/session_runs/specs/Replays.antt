-- What the run of a text comes to.
use Rattle.std.specs.Prelude.{◌≡◌, ℕ, List, Option, Ok}
use Rattle.std.specs.Io.KnownBytes.{Appends}
use Rattle.txn_bytes.specs.Written.{AppendsFront}
use Rattle.serial_spec.specs.Interleaving.{Session}
use Rattle.session_text.specs.Texts.{sessions_of, Tells}
use Rattle.durable_top.specs.declared.store.TopStore.{Ghosts}
use Rattle.run_reports.specs.Told.{Told}
use Rattle.run_reports.specs.Reports.{IsReport}
use Rattle.interleavings.specs.Runs.{HasRunCause}
use Rattle.interleavings.specs.declared.run.RunFault.{RunFault}
use Rattle.report_text.specs.Lines.{spelled_report}
use Rattle.report_check.specs.Verdicts.{HasVerdict}
use Rattle.report_check.specs.declared.verdict.Verdict.TheVariants.{Yes}
use Rattle.interleavings.specs.Served.{HasServeCause}
use Rattle.interleavings.specs.declared.served.ServeFault.{ServeFault}
use Rattle.session_runs.specs.Ways.{Way, Scheduled, ByWorkers, IsRunBy}
use Rattle.session_runs.specs.declared.replay.ReplayFault.{ReplayFault}
use Rattle.session_runs.specs.declared.replay.ReplayFault.TheVariants.{Text, Run, Serve, Write}

-- The text spells sessions, and this is the report of their run in this way over the store, which
-- comes back as `left`
pub record IsTold {S : Type 0} (g : Ghosts S) (text : List ℕ) (way : Way) (store left : S)
    (r : Told) : Type 0 where
  pub sessions : List Session
  pub read : sessions_of text ≡ Ok sessions
  -- legal, serially correct, finished, with the table that is due
  pub report : IsReport r
  -- of these sessions' lines, in the order that a schedule says, over the store's rows
  pub run : IsRunBy g sessions way store r left

-- the writer took the bytes of that report
pub record IsReplayed {S : Type 0} (g : Ghosts S) (old new : Option (List ℕ)) (text : List ℕ)
    (way : Way) (store left : S) : Type 0 where
  pub told : Told
  pub holds : IsTold g text way store left told
  pub written : Appends old new (spelled_report told)
  -- and whoever checks them accepts them
  pub accepted : HasVerdict (spelled_report told) Yes

-- the writer failed, after a beginning of that report
pub record IsCutShort {S : Type 0} (g : Ghosts S) (old new : Option (List ℕ)) (text : List ℕ)
    (way : Way) (store : S) : Type 0 where
  pub left : S
  pub told : Told
  pub holds : IsTold g text way store left told
  pub written : AppendsFront old new (spelled_report told)

-- the text spells sessions, and their run by the schedule gave no report
pub record IsUnrun {S : Type 0} (g : Ghosts S) (text schedule : List ℕ) (store : S)
    (fault : RunFault) : Type 0 where
  pub sessions : List Session
  pub read : sessions_of text ≡ Ok sessions
  pub cause : HasRunCause g sessions schedule store fault

-- the same by workers
pub record IsUnserved {S : Type 0} (g : Ghosts S) (text : List ℕ) (store : S)
    (fault : ServeFault) : Type 0 where
  pub sessions : List Session
  pub read : sessions_of text ≡ Ok sessions
  pub cause : HasServeCause g sessions store fault

-- Why a text was not run. Which way it was to be run tells which kinds of fault there are
abbrev pub HasReplayCause : {S : Type 0} → Ghosts S → Option (List ℕ) → Option (List ℕ)
    → List ℕ → Way → S → ReplayFault → Type 0
HasReplayCause g old new text way store (Text fault) = Tells fault (sessions_of text)
HasReplayCause g old new text (Scheduled schedule) store (Run fault) =
    IsUnrun g text schedule store fault
HasReplayCause g old new text ByWorkers store (Run fault) = ⊥
HasReplayCause g old new text (Scheduled schedule) store (Serve fault) = ⊥
HasReplayCause g old new text ByWorkers store (Serve fault) = IsUnserved g text store fault
HasReplayCause g old new text way store (Write fault) = IsCutShort g old new text way store

-- the text spells no sessions, and the fault tells why
abbrev pub IsUnread : List ℕ → ReplayFault → Type 0
IsUnread text (Text fault) = Tells fault (sessions_of text)
IsUnread text (Run fault) = ⊥
IsUnread text (Serve fault) = ⊥
IsUnread text (Write fault) = ⊥

-- the writer failed, after a beginning of this report
abbrev pub IsUnended : Option (List ℕ) → Option (List ℕ) → Told → ReplayFault → Type 0
IsUnended old new r (Text fault) = ⊥
IsUnended old new r (Run fault) = ⊥
IsUnended old new r (Serve fault) = ⊥
IsUnended old new r (Write fault) = AppendsFront old new (spelled_report r)

-- a fault that came before anything was written
abbrev pub IsUnwritten : ReplayFault → Type 0
IsUnwritten (Text fault) = Unit {0}
IsUnwritten (Run fault) = Unit {0}
IsUnwritten (Serve fault) = Unit {0}
IsUnwritten (Write fault) = ⊥
