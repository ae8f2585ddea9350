-- Which task the words of a command line ask for.
use Rattle.std.specs.Prelude.{◌≡◌, ◌↔◌, Bool, List, [], Option, Some, None, String}
use Rattle.std.specs.Prelude.{IsSomeAnd, IsTrue, codes}
use Rattle.std.specs.Borrow.{Bor}
use Rattle.std.specs.Option.{option_copied}
use Rattle.clap.specs.Words.{Row, Text, fault_of, first_of, one_of, subcommand_of}
use Rattle.command_line.specs.CommandLine.{tx_app}
use Rattle.command_line.specs.Words.{with_name}
use Rattle.command_line.specs.declared.task.Solo.{Solo}
use Rattle.command_line.specs.declared.task.Solo.TheVariants.{Check, Draw, Live, Replay, Rows, Show}
use Rattle.command_line.specs.declared.task.Task.{Task}
use Rattle.command_line.specs.declared.task.Task.TheVariants.{Alone, Run}

-- ---- the name of the subcommand that asks for a task

abbrev pub name_of_solo : Solo → Text
name_of_solo (Replay file schedule database) = codes "replay"
name_of_solo (Live database) = codes "live"
name_of_solo (Check file) = codes "check"
name_of_solo (Rows path) = codes "rows"
name_of_solo (Show file jobs undone strict) = codes "show"
name_of_solo (Draw file) = codes "draw"

abbrev pub name_of : Task → Text
name_of (Run file workers database) = codes "run"
name_of (Alone solo) = name_of_solo solo

-- ---- what the subcommand's matches have for the parts of a task

-- the argument has this value
abbrev pub IsValueOf : Text → List Row → Bor Text → Type 0
IsValueOf id rows value = first_of id rows ≡ Some value.now

-- it has this value, or none
abbrev pub IsChoiceOf : Text → List Row → Option (Bor Text) → Type 0
IsChoiceOf id rows value = first_of id rows ≡ option_copied value

-- the flag is set exactly where its text is "true"
abbrev pub IsFlagOf : Text → List Row → Bool → Type 0
IsFlagOf id rows set = IsTrue set ↔ (one_of id rows ≡ Some (codes "true"))

abbrev pub FitsSolo : List Row → Solo → Type 0
FitsSolo rows (Replay file schedule database) = IsValueOf (codes "file") rows file
    × IsChoiceOf (codes "schedule") rows schedule × IsChoiceOf (codes "db") rows database
FitsSolo rows (Live database) = IsChoiceOf (codes "db") rows database
FitsSolo rows (Check file) = IsValueOf (codes "report") rows file
FitsSolo rows (Rows path) = IsValueOf (codes "path") rows path
FitsSolo rows (Show file jobs undone strict) = IsValueOf (codes "report") rows file
    × IsFlagOf (codes "jobs") rows jobs × IsFlagOf (codes "undone") rows undone
    × IsFlagOf (codes "strict") rows strict
FitsSolo rows (Draw file) = IsValueOf (codes "report") rows file

abbrev pub Fits : List Row → Task → Type 0
Fits rows (Run file workers database) = IsValueOf (codes "file") rows file
    × IsChoiceOf (codes "workers") rows workers × IsChoiceOf (codes "db") rows database
Fits rows (Alone solo) = FitsSolo rows solo

-- ---- the task of a subcommand, by its name and its matches

abbrev pub IsSoloOf : Text → List Row → Solo → Type 0
IsSoloOf name rows solo = (name ≡ name_of_solo solo) × FitsSolo rows solo

abbrev pub IsTaskOf : Text → List Row → Task → Type 0
IsTaskOf name rows task = (name ≡ name_of task) × Fits rows task

-- such a task, or that there is none
abbrev pub IsMaybeSoloOf : Text → List Row → Option Solo → Type 0
IsMaybeSoloOf name rows (Some solo) = IsSoloOf name rows solo
IsMaybeSoloOf name rows None = (solo : Solo) → IsSoloOf name rows solo → ⊥

abbrev pub IsMaybeTaskOf : Text → List Row → Option Task → Type 0
IsMaybeTaskOf name rows (Some task) = IsTaskOf name rows task
IsMaybeTaskOf name rows None = (task : Task) → IsTaskOf name rows task → ⊥

-- ---- the task of a command line

-- These words, the program's name first, ask for the task: `clap` finds no fault in them, and the
-- task is that of the subcommand that they name
pub record Asks (words : List Text) (task : Task) : Type 0 where
  pub faultless : fault_of tx_app words ≡ []
  pub named : IsSomeAnd (subcommand_of tx_app words) (λ sub. IsTaskOf sub.0 sub.1 task)

-- they ask for none
abbrev pub AskNothing : List Text → Type 0
AskNothing words = (task : Task) → Asks words task → ⊥

-- what is read of words without a fault: the task that they ask for, or that they ask for none
abbrev pub IsRead : List Text → Option Task → Type 0
IsRead words (Some task) = Asks words task
IsRead words None = AskNothing words

-- ---- the words behind the program's name

-- they ask for the task
abbrev pub AskedBy : {Z : Type 0} → List (String Z) → Task → Type 0
AskedBy words = Asks (with_name words)
