use Rattle.live_sessions.proofs.Grown.{open_still}
use Rattle.live_sessions.proofs.Handled.{breaks_behind, breaks_here, grows_of, live_still}
use Rattle.live_sessions.proofs.live.Live.take.Goals as goal

pub returns-in-Err-clause-err : goal.returns-in-Err-clause-err
returns-in-Err-clause-err g c =
    let p = c.self.inside.progress in
    rw (← c.self.view_is)
    (breaks_here g.S.TopStore c.self.inside.sessions p c.args.label c.args.line c.grow.new.progress c.give_up.result c.self.invariant.way.0.way c.has_sound_manager.ensures
    c.in-Err.ensures.core c.give_up.ensures)

pub invariant_of-result : goal.invariant_of-result
invariant_of-result g c =
    let p = c.self.inside.progress in
    let grown = c.grow.new.progress in
    live_still g.S.TopStore c.grow.new.sessions grown c.in-Ok.session c.from_progress-turns.result c.attempt_all-attempted.new.turns c.from_progress-turns.ensures
    c.grow.new.labels.items c.into_progress-progress.result (open_still p grown c.in-Ok.ensures.core c.self.invariant.open_ended) c.in-Ok-attempted.ensures.ok
    c.into_progress-progress.ensures.core c.into_progress-progress.ensures.way c.in-Ok.ensures.labels

pub returns-in-Ok-attempted-clause-ok : goal.returns-in-Ok-attempted-clause-ok
returns-in-Ok-attempted-clause-ok g c =
    rw (← c.self.view_is)
    (grows_of g.S.TopStore c.self.inside.sessions c.self.inside.progress c.args.label c.args.line c.grow.new.sessions c.grow.new.progress
    c.from_progress-turns.result c.attempt_all-attempted.new.turns c.in-Ok.ensures.sessions c.in-Ok.ensures.core c.from_progress-turns.ensures
    c.in-Ok.session c.into_progress-progress.result c.in-Ok.ensures.place c.in-Ok-attempted.ensures.ok c.into_progress-progress.ensures.core)

pub returns-in-Err-attempted-clause-err : goal.returns-in-Err-attempted-clause-err
returns-in-Err-attempted-clause-err g c =
    rw (← c.self.view_is)
    (breaks_behind g.S.TopStore c.self.inside.sessions c.self.inside.progress c.args.label c.args.line c.grow.new.sessions c.grow.new.progress
    c.from_progress-turns.result c.attempt_all-attempted.new.turns c.in-Ok.ensures.sessions c.in-Ok.ensures.core c.from_progress-turns.ensures
    c.into_progress-progress.result c.give_up-in-Err-attempted.result c.in-Err-attempted.ensures.err c.has_legal_history.ensures c.into_progress-progress.ensures.core c.give_up-in-Err-attempted.ensures)
