use Rattle.std.proofs.Common.{ap, codes}
use Rattle.clap.specs.Words.{found_of, rows_of}
use Rattle.command_line.proofs.Reading.{has_no_name, lacks_value, wanted_at}
use Rattle.command_line.proofs.task.read_solo.Goals as goal

pub returns-in_err-value_of-in-replay : goal.returns-in_err-value_of-in-replay
returns-in_err-value_of-in-replay c = rw c.from_residual.ensures
    (lacks_value c.args.name.now (rows_of (found_of c.args.of.now)) (codes "file")
    (ap wanted_at c.in-replay.is) c.in_err-value_of-in-replay.ensures)

pub returns-in_err-value_of-in-check : goal.returns-in_err-value_of-in-check
returns-in_err-value_of-in-check c = rw c.from_residual-in_err-value_of-in-check.ensures
    (lacks_value c.args.name.now (rows_of (found_of c.args.of.now)) (codes "report")
    (ap wanted_at c.in-check.is) c.in_err-value_of-in-check.ensures)

pub returns-in_err-value_of-in-rows : goal.returns-in_err-value_of-in-rows
returns-in_err-value_of-in-rows c = rw c.from_residual-in_err-value_of-in-rows.ensures
    (lacks_value c.args.name.now (rows_of (found_of c.args.of.now)) (codes "path")
    (ap wanted_at c.in-rows.is) c.in_err-value_of-in-rows.ensures)

pub returns-in_err-value_of-in-show : goal.returns-in_err-value_of-in-show
returns-in_err-value_of-in-show c = rw c.from_residual-in_err-value_of-in-show.ensures
    (lacks_value c.args.name.now (rows_of (found_of c.args.of.now)) (codes "report")
    (ap wanted_at c.in-show.is) c.in_err-value_of-in-show.ensures)

pub returns-in_err-value_of-in-draw : goal.returns-in_err-value_of-in-draw
returns-in_err-value_of-in-draw c = rw c.from_residual-in_err-value_of-in-draw.ensures
    (lacks_value c.args.name.now (rows_of (found_of c.args.of.now)) (codes "report")
    (ap wanted_at c.in-draw.is) c.in_err-value_of-in-draw.ensures)

pub returns-in_default : goal.returns-in_default
returns-in_default c =
    has_no_name c.args.name.now (rows_of (found_of c.args.of.now)) c.in_default.not-replay
    c.in_default.not-live c.in_default.not-check c.in_default.not-rows c.in_default.not-show
    c.in_default.not-draw
