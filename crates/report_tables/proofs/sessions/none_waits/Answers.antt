use Rattle.std.proofs.Common.{◌<◌, ◌∙◌, sym, length, arith}
use Rattle.report_tables.proofs.Speaking.{one_waits, sessions_level}
use Rattle.report_tables.proofs.sessions.none_waits.Goals as goal

pub returns-then-not-is_idle_at : goal.returns-then-not-is_idle_at
returns-then-not-is_idle_at c labels h are =
    let n = c.loop-number.number in
    let level = sessions_level labels h c.args.sessions.now.entries are in
    let within : n < length labels = omega (arith, level, c.loop-number-test.true, c.len-number-end.ensures.len) in
    sym (one_waits h n (length labels) (sym (c.is_idle_at.ensures labels h are within) ∙ c.if-not-is_idle_at.true) within)
