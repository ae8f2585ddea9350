use Rattle.std.proofs.Common.{◌∙◌, Err, Ok}
use Rattle.std.proofs.lemmas.Result.{err_from_is_err_and}
use Rattle.clap.specs.declared.parser.matches.ArgMatches.{ArgMatches}
use Rattle.command_line.proofs.Parsing.{enters, fails, reads, reads_nothing}
use Rattle.command_line.proofs.Reading.{entered, not_entered}
use Rattle.command_line.proofs.task.task_of.Goals as goal

pub returns-in_err-matches-clause-refused : goal.returns-in_err-matches-clause-refused
returns-in_err-matches-clause-refused c =
    let p = err_from_is_err_and c.from_residual-in_err-matches.result c.from_residual-in_err-matches.ensures.1 in
    rw (p.1, p.2) (fails {T = ArgMatches} _ _ (Err c.in_err-matches.field-0.0) c.in_ok-command.ensures c.in_err-matches.ensures.kinds)

pub returns-in_default-clause-read : goal.returns-in_default-clause-read
returns-in_default-clause-read c =
    reads_nothing _
    (enters _ _ c.in_ok-matches.matches c.in_ok-command.ensures c.in_ok-matches.ensures.matches
    ∙ not_entered _ c.in_default.ensures.rows)

pub returns-in_default-clause-refused : goal.returns-in_default-clause-refused
returns-in_default-clause-refused c =
    fails {T = ArgMatches} _ _ (Ok c.in_ok-matches.matches) c.in_ok-command.ensures c.in_ok-matches.ensures.kinds

pub returns-clause-read : goal.returns-clause-read
returns-clause-read c =
    reads _ _ _ c.read_task.result
    (fails {T = ArgMatches} _ _ (Ok c.in_ok-matches.matches) c.in_ok-command.ensures c.in_ok-matches.ensures.kinds)
    (enters _ _ c.in_ok-matches.matches c.in_ok-command.ensures c.in_ok-matches.ensures.matches
    ∙ entered _ _ _ c.in-Some.ensures.name c.in-Some.ensures.rows) c.read_task.ensures

pub returns-clause-refused : goal.returns-clause-refused
returns-clause-refused c =
    fails {T = ArgMatches} _ _ (Ok c.in_ok-matches.matches) c.in_ok-command.ensures c.in_ok-matches.ensures.kinds
