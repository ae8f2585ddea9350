use Rattle.std.proofs.Common.{refl, ◌+◌, length, arith, ◌≡◌}
use Rattle.report_judge.specs.Kept.{known}
use Rattle.report_judge.proofs.Following.{close_follows}
use Rattle.report_judge.proofs.seen.take_close.Goals as goal

pub returns-then-depth-eq1-clause-kept : goal.returns-then-depth-eq1-clause-kept
returns-then-depth-eq1-clause-kept c r kept =
    let one : length c.args.name.now ≡ 1 = omega (arith, c.depth.ensures.depth, c.if-depth-eq1.true) in
    close_follows r c.args.seen.now _ c.args.name.now kept one refl refl refl refl refl c.abort.result
    (c.abort.ensures (1 + length r.opening) (known c.args.seen.now) r.history kept.transactions)
