use Rattle.command_line.proofs.command.run_command.Goals as goal

pub returns : goal.returns
returns c =
    let file = c.taking-run.ensures _ _ c.bare-run.ensures c.file_argument.ensures in
    let workers = c.taking-run-2.ensures _ _ file c.option-workers.ensures in
    c.taking.ensures _ _ workers c.database_argument.ensures
