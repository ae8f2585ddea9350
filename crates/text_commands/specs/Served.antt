-- What the program does that only replays, by its exit status.
use Rattle.std.specs.Prelude.{◌≡◌, ◌≤◌, ◌⊎◌, ℕ, List, Option}
use Rattle.std.specs.Borrow.{Bor}
use Rattle.program_words.specs.declared.status.TheConstants.{DONE, FAILED, MISUSED}
use Rattle.program_words.specs.declared.fault.Fault.TheVariants.{NoMemory}
use Rattle.program_words.specs.Faults.{IsSaid, spelled_fault}
use Rattle.program_words.specs.Tellings.{Accounts}
use Rattle.text_commands.specs.Outcomes.{Replays, ReplaysNot}
use Rattle.tx_machine.specs.Worlds.{State, World}
use Rattle.asked_tasks.specs.Refused.{WantsNoReplay}
use Rattle.command_line.specs.declared.task.Task.{Task}
use Rattle.command_line.specs.declared.task.Task.TheVariants.{Alone}
use Rattle.command_line.specs.declared.task.Solo.TheVariants.{Replay}

module _ (Asked : Task → Type 0) where
  -- a replay that is asked for: of a file, by a list, over a database
  pub record ForReplay (Holds : List ℕ → Option (Bor (List ℕ)) → Option (Bor (List ℕ)) → Type 0)
      : Type 0 where
    pub file : Bor (List ℕ)
    pub list : Option (Bor (List ℕ))
    pub database : Option (Bor (List ℕ))
    pub asked : Asked (Alone (Replay file list database))
    pub so : Holds file.now list database

module _ {H T P N W E : Type 0} (o : World H T P N W E) (before after : State H W E) where
  -- memory ran out before the words were read: nothing was asked of the surroundings or of the
  -- output, and the error writer got the line of that
  pub record IsUnstarted : Type 0 where
    pub unasked : after.host ≡ before.host
    pub unwritten : after.out ≡ before.out
    pub said : IsSaid o.err before.err after.err (spelled_fault NoMemory)

  -- At the first status a replay that is asked for was done. At the second it was not, or the words
  -- were not read. At the last none is asked for, and nothing was asked of the surroundings or of
  -- the output
  pub record Serves (Asked : Task → Type 0) (status : ℕ) : Type 0 where
    pub done : status ≡ DONE → ForReplay Asked (Replays o before after)
    pub failed : status ≡ FAILED → ForReplay Asked (ReplaysNot o before after) ⊎ IsUnstarted
    pub misused : status ≡ MISUSED → (after.host ≡ before.host) × (after.out ≡ before.out)
    pub unwanted : status ≡ MISUSED → WantsNoReplay Asked
    pub accounts : Accounts o.out o.err after.out before.err after.err status
    pub bounded : status ≤ MISUSED
