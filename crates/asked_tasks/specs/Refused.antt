-- What is told where words ask for nothing that the program does.
use Rattle.std.specs.Prelude.{◌≡◌, ◌≢◌, ◌⊎◌, ℕ, List, [], Option, codes, map}
use Rattle.std.specs.Borrow.{Bor}
use Rattle.clap.specs.Words.{fault_of}
use Rattle.txn_bytes.specs.Written.{Writer}
use Rattle.line_language.specs.Report.{line}
use Rattle.program_words.specs.declared.status.TheConstants.{FAILED, MISUSED}
use Rattle.program_words.specs.declared.fault.Fault.TheVariants.{NoMemory}
use Rattle.program_words.specs.Faults.{IsSaid, spelled_fault}
use Rattle.program_words.specs.Tellings.{HasUsageLine}
use Rattle.command_line.specs.CommandLine.{tx_app}
use Rattle.command_line.specs.declared.task.Task.{Task}
use Rattle.command_line.specs.declared.task.Task.TheVariants.{Alone}
use Rattle.command_line.specs.declared.task.Solo.TheVariants.{Replay}

-- no replay is asked for
abbrev pub WantsNoReplay : (Task → Type 0) → Type 0
WantsNoReplay Asked = (file : Bor (List ℕ)) (list database : Option (Bor (List ℕ)))
    → Asked (Alone (Replay file list database)) → ⊥

-- Why the words come to nothing, by the exit status. At the one memory ran out, and the error writer
-- got the line of that. At the other it got some text and a line feed, and nothing is wanted
pub record IsRefused {E : Type 0} (e : Writer E) (err_old err_new : E) (Unwanted : Type 0)
    (status : ℕ) : Type 0 where
  pub failed : status ≡ FAILED → IsSaid e err_old err_new (spelled_fault NoMemory)
  pub misused : status ≢ FAILED → HasUsageLine e err_old err_new
  pub unwanted : status ≡ MISUSED → Unwanted
  pub bounded : (status ≡ FAILED) ⊎ (status ≡ MISUSED)

-- the texts of words that are lent
abbrev pub texts_of : List (Bor (List ℕ)) → List (List ℕ)
texts_of words = map (λ word. word.now) words

-- words in which `clap` finds no fault, and that come to nothing, were told this text
abbrev pub TellsUsage : {E : Type 0} → Writer E → E → E → List (List ℕ) → List ℕ → ℕ → Type 0
TellsUsage e err_old err_new words usage status =
    status ≡ MISUSED → fault_of tx_app words ≡ [] → IsSaid e err_old err_new (line usage)

-- what is told of words that ask for no replay
abbrev pub replay_usage : List ℕ
replay_usage = codes "usage: tx replay FILE [--schedule LIST] [--db PATH]"
