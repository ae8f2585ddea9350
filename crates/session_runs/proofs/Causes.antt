-- The causes of the first step of a run and of the last, as causes of the whole.
use Rattle.std.proofs.Common.{ℕ, List, Option}
use Rattle.txn_bytes.specs.Written.{Writer}
use Rattle.durable_top.specs.declared.store.TopStore.{Ghosts}
use Rattle.run_reports.specs.Told.{Told}
use Rattle.session_runs.specs.Ways.{Way}
use Rattle.session_runs.specs.Replays.{HasReplayCause, IsTold, IsUnended, IsUnread, IsUnwritten}
use Rattle.session_runs.specs.Tellings.{IsAnswered}
use Rattle.session_runs.specs.declared.replay.ReplayFault.{ReplayFault}
use Rattle.session_runs.specs.declared.replay.ReplayFault.TheVariants.{Text, Run, Serve, Write}

module _ {S : Type 0} (g : Ghosts S) (old new : Option (List ℕ)) (text : List ℕ) (way : Way) (store : S) where
  pub unread : (fault : ReplayFault) → IsUnread text fault → HasReplayCause g old new text way store fault
  unread (Text fault) told = told
  unread (Run fault) none = absurd none
  unread (Serve fault) none = absurd none
  unread (Write fault) none = absurd none

  pub unended : (left : S) (r : Told) (fault : ReplayFault) → IsTold g text way store left r → IsUnended old new r fault → HasReplayCause g old new text way store fault
  unended left r (Text fault) holds none = absurd none
  unended left r (Run fault) holds none = absurd none
  unended left r (Serve fault) holds none = absurd none
  unended left r (Write fault) holds cut = record { left = left; told = r; holds = holds; written = cut }

-- a fault of the writer does not come before anything was written
pub written : (old new : Option (List ℕ)) (r : Told) (fault : ReplayFault) → IsUnended old new r fault → IsUnwritten fault → ⊥
written old new r (Text fault) none before = none
written old new r (Run fault) none before = none
written old new r (Serve fault) none before = none
written old new r (Write fault) cut before = before

-- a fault of the text is none of the writer
pub unread_answered : {W : Type 0} (w : Writer W) (new : W) (text : List ℕ) (fault : ReplayFault) → IsUnread text fault → IsAnswered w new fault
unread_answered w new text (Text fault) told = tt
unread_answered w new text (Run fault) none = absurd none
unread_answered w new text (Serve fault) none = absurd none
unread_answered w new text (Write fault) none = absurd none
