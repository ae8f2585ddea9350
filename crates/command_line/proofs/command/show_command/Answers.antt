use Rattle.command_line.proofs.command.show_command.Goals as goal

pub returns : goal.returns
returns c =
    let report = c.taking-show.ensures _ _ c.bare-show.ensures c.report_argument.ensures in
    let jobs = c.taking-show-2.ensures _ _ report c.flag.ensures in
    let undone = c.taking-show-3.ensures _ _ jobs c.flag-2.ensures in
    c.taking.ensures _ _ undone c.flag-3.ensures
