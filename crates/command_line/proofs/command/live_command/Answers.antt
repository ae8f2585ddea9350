use Rattle.command_line.proofs.command.live_command.Goals as goal

pub returns : goal.returns
returns c = c.taking.ensures _ _ c.bare-live.ensures c.database_argument.ensures
