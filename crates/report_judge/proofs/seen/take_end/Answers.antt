use Rattle.std.proofs.Common.{◌∙◌, sym}
use Rattle.report_judge.proofs.Following.{comes_idle, no_effect}
use Rattle.report_judge.proofs.seen.take_end.Goals as goal

pub returns-then-not-is_done_ok : goal.returns-then-not-is_done_ok
returns-then-not-is_done_ok c base known h are other =
    comes_idle base known h c.args.transactions.now _ (no_effect c.args.event.now c.args.answer.now other (sym c.is_done_ok.ensures ∙ c.if-not-is_done_ok.true)) are
