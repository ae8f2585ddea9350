use Rattle.std.proofs.Common.{sym, arith}
use Rattle.wait_graph.proofs.TwoLists.{only_two}
use Rattle.wait_graph.proofs.lockers.Lockers.of.Goals as goal

pub returns : goal.returns
returns c =
    only_two c.args.locks.now c.target-target.result c.args.wait.now (sym c.target-target.ensures) c.lists-lists.ensures.all c.list_at-2.result.now c.loop-place.more.now c.list_at-2.ensures.each
    (λ p above within u. c.loop-place.invariant p above (omega (arith, within, c.loop-place-test.false, c.lists-lists.ensures.count)) u)
