-- What the words of the command line asked for, and whether it was done.
use Rattle.std.specs.Prelude.{◌≡◌, ◌≤◌, ◌⊎◌, ℕ, Bool, IsNone}
use Rattle.std.specs.Option.{option_copied}
use Rattle.txn_bytes.specs.Sources.{Reader}
use Rattle.program_words.specs.declared.status.TheConstants.{DONE, FAILED, MISUSED}
use Rattle.program_words.specs.Faults.{IsSaid, spelled_fault}
use Rattle.program_words.specs.Tellings.{Accounts}
use Rattle.program_words.specs.declared.fault.Fault.TheVariants.{NoMemory}
use Rattle.session_runs.specs.Ways.{ByWorkers}
use Rattle.text_commands.specs.Outcomes.{Misses, Prints, Replays, ReplaysNot}
use Rattle.tx_commands.specs.Programs.{IsCondemned, IsPassed, IsUnpassed, Lists, ListsNot}
use Rattle.tx_commands.specs.Shows.{Draws, DrawsNot, IsLacking, Shows, ShowsNot}
use Rattle.tree_lines.specs.declared.lining.Choice.{Choice}
use Rattle.live_commands.specs.Lives.{Lives, LivesNot}
use Rattle.tx_machine.specs.Worlds.{State, World}
use Rattle.worker_runs.specs.Workers.{workers_of}
use Rattle.command_line.specs.declared.task.Task.{Task}
use Rattle.command_line.specs.declared.task.Task.TheVariants.{Alone, Run}
use Rattle.command_line.specs.declared.task.Solo.{Solo}
use Rattle.command_line.specs.declared.task.Solo.TheVariants.{Check, Draw, Live, Replay, Rows, Show}

-- a task that is asked for
pub record ForTask (Asked Holds : Task → Type 0) : Type 0 where
  pub task : Task
  pub asked : Asked task
  pub so : Holds task

-- none is
abbrev pub WantsNoTask : (Task → Type 0) → Type 0
WantsNoTask Asked = (task : Task) → Asked task → ⊥

-- the task is a run, by a word that is no number of workers
abbrev pub IsMiscounted : Task → Type 0
IsMiscounted (Run file workers database) = IsNone (workers_of (option_copied workers))
IsMiscounted (Alone solo) = ⊥

-- what is shown under these options
abbrev pub choice_of : Bool → Bool → Choice
choice_of jobs undone = record { jobs = jobs; undone = undone }

module _ {H T P N W E : Type 0} (o : World H T P N W E) (before after : State H W E) where
  -- a report was to be judged, shown or drawn, and the output got the verdict no; or the output got
  -- the lines of a report in which not all was done, which the status was to tell
  abbrev pub IsCondemnedAlone : Solo → Type 0
  IsCondemnedAlone (Replay file list database) = ⊥
  IsCondemnedAlone (Live database) = ⊥
  IsCondemnedAlone (Check file) = IsCondemned o before after file.now
  IsCondemnedAlone (Rows path) = ⊥
  IsCondemnedAlone (Show file jobs undone strict) = IsCondemned o before after file.now
      ⊎ IsLacking o before after file.now (choice_of jobs undone) strict
  IsCondemnedAlone (Draw file) = IsCondemned o before after file.now

  abbrev pub IsCondemnedBy : Task → Type 0
  IsCondemnedBy (Run file workers database) = ⊥
  IsCondemnedBy (Alone solo) = IsCondemnedAlone solo

module _ {H T P N I W E : Type 0} (o : World H T P N W E) (r : Reader I)
    (before after : State H W E) (in_old in_new : I) where
  -- it was done: the output got the report, or the verdict yes, or the rows, or a report's lines or
  -- picture. Only a live run reads the input
  abbrev pub IsDoneAlone : Solo → Type 0
  IsDoneAlone (Replay file list database) =
      Replays o before after file.now list database × (in_new ≡ in_old)
  IsDoneAlone (Live database) = Lives o r before after in_old in_new database
  IsDoneAlone (Check file) = IsPassed o before after file.now × (in_new ≡ in_old)
  IsDoneAlone (Rows path) = Lists o before after path.now × (in_new ≡ in_old)
  IsDoneAlone (Show file jobs undone strict) =
      Shows o before after file.now (choice_of jobs undone) strict × (in_new ≡ in_old)
  IsDoneAlone (Draw file) = Draws o before after file.now × (in_new ≡ in_old)

  abbrev pub IsDone : Task → Type 0
  IsDone (Run file workers database) =
      Prints o before after file.now ByWorkers database × (in_new ≡ in_old)
  IsDone (Alone solo) = IsDoneAlone solo

  -- it was not: there is no whole report, or no verdict yes, or not all rows, lines or bytes of a
  -- picture; or not all was done in a report, which the status was to tell
  abbrev pub IsUndoneAlone : Solo → Type 0
  IsUndoneAlone (Replay file list database) =
      ReplaysNot o before after file.now list database × (in_new ≡ in_old)
  IsUndoneAlone (Live database) = LivesNot o r before after in_old in_new database
  IsUndoneAlone (Check file) = IsUnpassed o before after file.now × (in_new ≡ in_old)
  IsUndoneAlone (Rows path) = ListsNot o before after path.now × (in_new ≡ in_old)
  IsUndoneAlone (Show file jobs undone strict) =
      ShowsNot o before after file.now (choice_of jobs undone) strict × (in_new ≡ in_old)
  IsUndoneAlone (Draw file) = DrawsNot o before after file.now × (in_new ≡ in_old)

  abbrev pub IsUndone : Task → Type 0
  IsUndone (Run file workers database) =
      Misses o before after file.now ByWorkers database × (in_new ≡ in_old)
  IsUndone (Alone solo) = IsUndoneAlone solo

  -- memory ran out before the words were read: nothing was asked of the surroundings, of the
  -- output or of the input, and the error writer got the line of that
  pub record IsUnstarted : Type 0 where
    pub unasked : after.host ≡ before.host
    pub unwritten : after.out ≡ before.out
    pub unread : in_new ≡ in_old
    pub said : IsSaid o.err before.err after.err (spelled_fault NoMemory)

  -- sessions were to be run as their lines come. What such a run tells of the two writers is said
  -- of it as a whole
  abbrev pub IsLiveAlone : ℕ → Solo → Type 0
  IsLiveAlone status (Replay file list database) = ⊥
  IsLiveAlone status (Live database) =
      (status ≤ FAILED)
      × (status ≡ DONE → Lives o r before after in_old in_new database)
      × (status ≡ FAILED → LivesNot o r before after in_old in_new database)
  IsLiveAlone status (Check file) = ⊥
  IsLiveAlone status (Rows path) = ⊥
  IsLiveAlone status (Show file jobs undone strict) = ⊥
  IsLiveAlone status (Draw file) = ⊥

  abbrev pub IsLiveBy : ℕ → Task → Type 0
  IsLiveBy status (Run file workers database) = ⊥
  IsLiveBy status (Alone solo) = IsLiveAlone status solo

  -- What an exit status says of the two writers. At a verdict no the output got that, and so it got
  -- the lines of a report in which not all was done; a live run says it itself
  abbrev pub AccountsForAlone : Solo → ℕ → Type 0
  AccountsForAlone solo status = (status ≡ FAILED) × IsCondemnedAlone o before after solo
      ⊎ (Accounts o.out o.err after.out before.err after.err status ⊎ IsLiveAlone status solo)

module _ {H T P N I W E : Type 0} (o : World H T P N W E) (r : Reader I)
    (before after : State H W E) (in_old in_new : I) (Asked : Task → Type 0) where
  abbrev pub AccountsForTask : ℕ → Type 0
  AccountsForTask status = (status ≡ FAILED) × ForTask Asked (IsCondemnedBy o before after)
      ⊎ (Accounts o.out o.err after.out before.err after.err status
      ⊎ ForTask Asked (IsLiveBy o r before after in_old in_new status))

  -- What the program does, by its exit status. At the first a task that is asked for was done. At
  -- the second it was not, or the words were not read. At the last none is asked for, or a run by a
  -- wrong number of workers, and nothing was asked of the surroundings, of the input or of the
  -- output. Such a run comes to the last, unless the words were not read
  pub record Serves (status : ℕ) : Type 0 where
    pub done : status ≡ DONE → ForTask Asked (IsDone o r before after in_old in_new)
    pub failed : status ≡ FAILED → ForTask Asked (IsUndone o r before after in_old in_new)
        ⊎ IsUnstarted o r before after in_old in_new
    pub misused : status ≡ MISUSED →
        (after.host ≡ before.host) × (in_new ≡ in_old) × (after.out ≡ before.out)
    pub unwanted : status ≡ MISUSED → WantsNoTask Asked ⊎ ForTask Asked IsMiscounted
    pub miscounted : ForTask Asked IsMiscounted
        → (status ≡ MISUSED) ⊎ IsUnstarted o r before after in_old in_new
    pub accounts : AccountsForTask status
    pub bounded : status ≤ MISUSED
