use Rattle.std.proofs.Common.{sym, arith}
use Rattle.wait_graph.proofs.HeldUp.{only_first}
use Rattle.wait_graph.proofs.edges.sole_blockers.Goals as goal

pub returns : goal.returns
returns c =
    only_first c.args.locks.now c.target-target.result c.args.wait.now (sym c.target-target.ensures) c.lists-lists.ensures.all
    (λ p above within u. c.loop-place.invariant p above (omega (arith, within, c.loop-place-test.false, c.lists-lists.ensures.count)) u)
    c.list_at-2.result.now c.list_at-2.ensures.each
