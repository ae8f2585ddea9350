use Rattle.clap.specs.Words.{found_of, rows_of}
use Rattle.command_line.proofs.Reading.{is_no_task, run_lacks_file}
use Rattle.command_line.proofs.task.read_task.Goals as goal

pub returns-in_err-value_of-in-run : goal.returns-in_err-value_of-in-run
returns-in_err-value_of-in-run c = rw c.from_residual.ensures
    (run_lacks_file c.args.name.now (rows_of (found_of c.args.of.now)) c.in-run.is
    c.in_err-value_of-in-run.ensures)

pub returns-in_err-read_solo-in_default : goal.returns-in_err-read_solo-in_default
returns-in_err-read_solo-in_default c = rw c.from_residual-in_err-read_solo-in_default.ensures
    (is_no_task c.args.name.now (rows_of (found_of c.args.of.now)) c.in_default.not-run
    c.in_err-read_solo-in_default.ensures)
