use Rattle.std.proofs.Common.{refl}
use Rattle.command_line.specs.CommandLine.{check_app, draw_app, live_app, replay_app, rows_app, run_app, show_app, tx_app}
use Rattle.command_line.proofs.command.command.Goals as goal

pub returns : goal.returns
unfolding tx_app
returns c =
    let replay = c.with-all.ensures _ replay_app c.bare-all.ensures refl c.replay_command.ensures in
    let run = c.with-all-2.ensures _ run_app replay refl c.run_command.ensures in
    let live = c.with-all-3.ensures _ live_app run refl c.live_command.ensures in
    let check = c.with-all-4.ensures _ check_app live refl c.check_command.ensures in
    let rows = c.with-all-5.ensures _ rows_app check refl c.rows_command.ensures in
    let show = c.with-all-6.ensures _ show_app rows refl c.show_command.ensures in
    c.with.ensures _ draw_app show refl c.draw_command.ensures
