use Rattle.command_line.proofs.command.replay_command.Goals as goal

pub returns : goal.returns
returns c =
    let file = c.taking-replay.ensures _ _ c.bare-replay.ensures c.file_argument.ensures in
    let schedule = c.taking-replay-2.ensures _ _ file c.option-schedule.ensures in
    c.taking.ensures _ _ schedule c.database_argument.ensures
