use Rattle.std.proofs.Common.{refl}
use Rattle.report_judge.specs.Kept.{known}
use Rattle.std.proofs.Common.{◌+◌, length}
use Rattle.report_judge.proofs.Following.{victim_follows}
use Rattle.report_judge.proofs.seen.take_victim.Goals as goal

pub returns-then-not-seen-clause-kept : goal.returns-then-not-seen-clause-kept
returns-then-not-seen-clause-kept c r kept =
    victim_follows r c.args.seen.now _ c.args.name.now kept c.if-not-seen.true refl refl refl refl refl c.abort.result
    (c.abort.ensures (1 + length r.opening) (known c.args.seen.now) r.history kept.transactions)
