-- What a parse by the program's command line says of the words.
use Rattle.std.proofs.Common.{◌≡◌, ◌∙◌, true, List, [], Option, Some, None, Result, refl, sym, ap, subst}
use Rattle.std.specs.Prelude.{IsSomeAnd}
use Rattle.clap.specs.Words.{App, FailsBy, HasMatchesOf, Row, Text, fault_of, is_simple, is_simple_and_free, subcommand_of}
use Rattle.clap.specs.Words.{subcommand_rows_of}
use Rattle.clap.specs.declared.error.Error.{Error}
use Rattle.clap.specs.declared.parser.matches.ArgMatches.{ArgMatches}
use Rattle.clap.proofs.OnLiterals.{clap_on_literals}
use Rattle.command_line.specs.CommandLine.{tx_app}
use Rattle.command_line.specs.Tasks.{AskNothing, IsMaybeTaskOf, IsRead, IsTaskOf}
use Rattle.command_line.specs.declared.task.Task.{Task}

simple : is_simple tx_app ≡ true
unfolding tx_app clap_on_literals
simple = refl

simple_and_free : is_simple_and_free tx_app ≡ true
unfolding tx_app clap_on_literals
simple_and_free = refl

pub fails : {T : Type 0} (app : App) (words : List Text) (r : Result T Error) → app ≡ tx_app
    → (is_simple_and_free app ≡ true → FailsBy (fault_of app words) r) → FailsBy (fault_of tx_app words) r
fails app words r is by = subst (λ (a : App). FailsBy (fault_of a words) r) is (by (ap is_simple_and_free is ∙ simple_and_free))

pub enters : (app : App) (words : List Text) (m : ArgMatches) → app ≡ tx_app → HasMatchesOf app words m
    → subcommand_of tx_app words ≡ subcommand_rows_of m
enters app words m is has = subst (λ (a : App). subcommand_of a words ≡ subcommand_rows_of m) is (sym (has (ap is_simple is ∙ simple)).1)

pub reads : (words : List Text) (name : Text) (rows : List Row) (found : Option Task) → fault_of tx_app words ≡ []
    → subcommand_of tx_app words ≡ Some (name, rows) → IsMaybeTaskOf name rows found → IsRead words found
reads words name rows (Some task) faultless sub is = record {
  faultless = faultless;
  named = subst (λ (s : Option (Text × List Row)). IsSomeAnd s (λ p. IsTaskOf p.0 p.1 task)) (sym sub) is;
}
reads words name rows None faultless sub is =
    λ task asks. is task (subst (λ (s : Option (Text × List Row)). IsSomeAnd s (λ p. IsTaskOf p.0 p.1 task)) sub asks.named)

pub reads_nothing : (words : List Text) → subcommand_of tx_app words ≡ None → AskNothing words
reads_nothing words sub = λ task asks.
    subst (λ (s : Option (Text × List Row)). IsSomeAnd s (λ p. IsTaskOf p.0 p.1 task)) sub asks.named
