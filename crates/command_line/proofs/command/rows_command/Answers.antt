use Rattle.command_line.proofs.command.rows_command.Goals as goal

pub returns : goal.returns
returns c = c.taking.ensures _ _ c.bare-rows.ensures c.needed.ensures
