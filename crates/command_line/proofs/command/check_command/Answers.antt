use Rattle.command_line.proofs.command.check_command.Goals as goal

pub returns : goal.returns
returns c = c.taking.ensures _ _ c.bare-check.ensures c.report_argument.ensures
