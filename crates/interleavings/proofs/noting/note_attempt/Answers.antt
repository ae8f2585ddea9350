use Rattle.event_lists.specs.Views.{asked}
use Rattle.interleavings.proofs.LeftOut.{noted_parked}
use Rattle.interleavings.proofs.noting.note_attempt.Goals as goal

pub returns-then-ends : goal.returns-then-ends
returns-then-ends g c =
    let m = c.args.manager.now in
    let left = c.leave_parked in
    noted_parked c.args.ready.now c.note_entries.new.ready left.new.ready m.rows m.history c.args.before c.args.session (asked c.args.due.now) c.args.came
    c.note_entries.ensures left.ensures.out left.ensures.begins left.ensures.idle left.ensures.crowd
