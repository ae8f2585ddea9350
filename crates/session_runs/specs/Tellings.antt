-- Which line the error writer got of a fault of a run.
use Rattle.std.specs.Prelude.{◌≡◌, ℕ, List}
use Rattle.txn_bytes.specs.Written.{IsStopped, Writer}
use Rattle.durable_top.specs.declared.store.TopStore.{Ghosts}
use Rattle.program_words.specs.Faults.{IsSaid, spelled_fault}
use Rattle.session_runs.specs.Faults.{told}
use Rattle.session_runs.specs.Replays.{HasReplayCause, IsUnwritten}
use Rattle.session_runs.specs.Ways.{Way}
use Rattle.session_runs.specs.declared.replay.ReplayFault.{ReplayFault}
use Rattle.session_runs.specs.declared.replay.ReplayFault.TheVariants.{Text, Run, Serve, Write}

-- a fault of the writer is one that it answered when it was asked to take bytes, and nothing was
-- asked of it since
abbrev pub IsAnswered : {W : Type 0} → Writer W → W → ReplayFault → Type 0
IsAnswered w new (Text fault) = Unit {0}
IsAnswered w new (Run fault) = Unit {0}
IsAnswered w new (Serve fault) = Unit {0}
IsAnswered w new (Write fault) = IsStopped w new

-- The run met a fault, and the error writer got its line. Nothing was asked of the output before a
-- fault that is none of its own
pub record IsFaulted {S W E : Type 0} (g : Ghosts S) (w : Writer W) (e : Writer E) (old new : W)
    (err_old err_new : E) (text : List ℕ) (way : Way) (store : S) : Type 0 where
  pub fault : ReplayFault
  pub cause : HasReplayCause g (w.contents old) (w.contents new) text way store fault
  pub answered : IsAnswered w new fault
  pub unwritten : IsUnwritten fault → new ≡ old
  pub said : IsSaid e err_old err_new (spelled_fault (told fault))
