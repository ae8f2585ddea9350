use Rattle.live_sessions.proofs.Handled.{live_start}
use Rattle.live_sessions.proofs.live.Live.open.Goals as goal

pub invariant_of-result : goal.invariant_of-result
invariant_of-result g c =
    live_start g.S.TopStore c.new-sessions.result c.args.store c.in_ok-turns.turns c.into_progress-progress.result c.new.result.items c.in_ok-turns.ensures.ok
    c.into_progress-progress.ensures.core c.into_progress-progress.ensures.way c.new-sessions.ensures c.new.ensures.items
