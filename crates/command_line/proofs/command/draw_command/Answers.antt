use Rattle.command_line.proofs.command.draw_command.Goals as goal

pub returns : goal.returns
returns c = c.taking.ensures _ _ c.bare-draw.ensures c.report_argument.ensures
