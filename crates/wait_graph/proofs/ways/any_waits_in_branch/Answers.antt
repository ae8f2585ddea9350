use Rattle.std.proofs.Common.{sym, ◌∙◌}
use Rattle.wait_graph.specs.Edges.{is_below_it, is_beside_it}
use Rattle.wait_graph.proofs.Passing.{any_as, none_passes}
use Rattle.wait_graph.proofs.ways.any_waits_in_branch.Goals as goal

pub returns-in-Some : goal.returns-in-Some
returns-in-Some c =
    c.any_waits_below.ensures
    ∙ sym (any_as (is_beside_it c.args.tree.now c.args.txn c.args.blocker) (is_below_it c.args.tree.now c.in-Some.top) (λ w. c.in-Some.ensures.some w.txn) c.args.waits.now.waits)

pub returns-in-None : goal.returns-in-None
returns-in-None c = sym (none_passes (is_beside_it c.args.tree.now c.args.txn c.args.blocker) (λ w. c.in-None.ensures.none w.txn) c.args.waits.now.waits)
