-- What the exit status of a run says of its two writers and of the store that it left.
use Rattle.std.specs.Prelude.{◌⊎◌, ℕ, List, Option, IsNone, IsSomeAnd}
use Rattle.txn_bytes.specs.Written.{Writer}
use Rattle.durable_top.specs.declared.store.TopStore.{Ghosts}
use Rattle.program_words.specs.Tellings.{IsUnflushed}
use Rattle.session_runs.specs.Ways.{Way}
use Rattle.session_runs.specs.Replays.{IsReplayed}
use Rattle.session_runs.specs.Tellings.{IsFaulted}

-- the output got the whole report of this text's run in this way over this store, and that run's
-- store is left
abbrev pub IsPrinted : {S : Type 0} → Ghosts S → Option (List ℕ) → Option (List ℕ) → List ℕ → Way
    → S → Option S → Type 0
IsPrinted g old new text way store left =
    IsSomeAnd left (λ back. IsReplayed g old new text way store back)

-- The run met a fault, which was told, and no store is left; or the writer took the whole report
-- and did not pass it on, which was told, and the store is left
abbrev pub IsMissed : {S W E : Type 0} → Ghosts S → Writer W → Writer E → W → W → E → E → List ℕ
    → Way → S → Option S → Type 0
IsMissed g w e old new err_old err_new text way store left =
    (IsNone left × IsFaulted g w e old new err_old err_new text way store)
    ⊎ (IsPrinted g (w.contents old) (w.contents new) text way store left
    × IsUnflushed w e new err_old err_new)
