-- The command line of the program, as a value: its subcommands, and what `clap` reads of their
-- arguments.
use Rattle.std.specs.Prelude.{◌≡◌, true, false, Some, Result, MatchResult, codes}
use Rattle.clap.specs.Words.{App, Rule, Text, app_of, kind_of, new_app, new_rule, rule_of}
use Rattle.clap.specs.Words.{with_rule, with_subcommand}
use Rattle.clap.specs.declared.builder.action.ArgAction.TheVariants.{Set, SetTrue}
use Rattle.clap.specs.declared.builder.arg.Arg.{Arg}
use Rattle.clap.specs.declared.builder.command.Command.{Command}
use Rattle.clap.specs.declared.error.Error.{Error}
use Rattle.clap.specs.declared.error.kind.ErrorKind.TheVariants.{OutOfMemory}

-- ---- arguments, each with the id by which it is read back

-- a word that is wanted, at its place
abbrev pub needed_rule : Text → Rule
needed_rule id = record (new_rule id) { action = Some Set; value_names = 1; required = true }

-- an option with a value, which may be left out; it is written '--ID VALUE' or '--ID=VALUE'
abbrev pub option_rule : Text → Rule
option_rule id = record (new_rule id) { long = Some id; action = Some Set; value_names = 1 }

-- a flag, written '--ID'
abbrev pub flag_rule : Text → Rule
flag_rule id = record (new_rule id) { long = Some id; action = Some SetTrue }

-- ---- subcommands

abbrev pub replay_app : App
replay_app = with_rule (with_rule (with_rule (new_app (codes "replay"))
    (needed_rule (codes "file"))) (option_rule (codes "schedule"))) (option_rule (codes "db"))

abbrev pub run_app : App
run_app = with_rule (with_rule (with_rule (new_app (codes "run"))
    (needed_rule (codes "file"))) (option_rule (codes "workers"))) (option_rule (codes "db"))

abbrev pub live_app : App
live_app = with_rule (new_app (codes "live")) (option_rule (codes "db"))

abbrev pub check_app : App
check_app = with_rule (new_app (codes "check")) (needed_rule (codes "report"))

abbrev pub rows_app : App
rows_app = with_rule (new_app (codes "rows")) (needed_rule (codes "path"))

abbrev pub show_app : App
show_app = with_rule (with_rule (with_rule (with_rule (new_app (codes "show"))
    (needed_rule (codes "report"))) (flag_rule (codes "jobs"))) (flag_rule (codes "undone")))
    (flag_rule (codes "strict"))

abbrev pub draw_app : App
draw_app = with_rule (new_app (codes "draw")) (needed_rule (codes "report"))

-- ---- the program

unfoldable pub tx_app : App
tx_app = with_subcommand (with_subcommand (with_subcommand (with_subcommand (with_subcommand
    (with_subcommand (with_subcommand (new_app (codes "tx")) replay_app.top) run_app.top)
    live_app.top) check_app.top) rows_app.top) show_app.top) draw_app.top

-- ---- what is made of them

-- the argument is read by this rule, and by its own command alone
abbrev pub IsArgument : Rule → Arg → Type 0
IsArgument rule argument = (rule_of argument ≡ rule) × (argument.global ≡ false)

-- the command was made, or memory ran out
abbrev pub IsMade : App → Result Command Error → Type 0
IsMade app result = MatchResult result (λ c. app_of c ≡ app) (λ e. kind_of e ≡ OutOfMemory)

-- the second command was put below the first, where the second reads words in no unusual way
abbrev pub IsJoined : Result Command Error → Result Command Error → Result Command Error → Type 0
IsJoined command more result = (above below : App) → IsMade above command
    → below.top.is_plain ≡ true → IsMade below more → IsMade (with_subcommand above below.top) result
