use Rattle.std.proofs.Common.{refl, sym, ap, ◌+◌, ◌∙◌, arith}
use Rattle.std.specs.List.{list_any}
use Rattle.std.proofs.lemmas.List.{take_all}
use Rattle.wait_graph.specs.Edges.{waits_by_way_of}
use Rattle.wait_graph.proofs.Passing.{here_passes, next_fails}
use Rattle.wait_graph.proofs.Unmet.{none_between}
use Rattle.wait_graph.proofs.ways.any_edge_by_way_of.Goals as goal

pub loop-place-init : goal.loop-place-init
loop-place-init c keeps tells =
    none_between c.args.tree.now keeps c.args.waits.now.waits c.args.txn c.args.target.now c.args.waits.now.waits 0 c.next_met-place.result refl c.next_met-place.ensures.unmet

pub loop-place-preserved : goal.loop-place-preserved
loop-place-preserved c keeps tells =
    none_between c.args.tree.now keeps c.args.waits.now.waits c.args.txn c.args.target.now c.args.waits.now.waits (c.loop-place.place + 1) c.next_met-place-in-loop-place.result
    (next_fails (waits_by_way_of c.args.tree.now keeps c.args.waits.now.waits c.args.txn c.args.target.now) c.args.waits.now.waits c.loop-place.place (c.loop-place.invariant keeps tells)
    (sym (c.has_edge_by_way_of_at.ensures keeps tells) ∙ c.if-has_edge_by_way_of_at.false))
    c.next_met-place-in-loop-place.ensures.unmet

pub returns-then-has_edge_by_way_of_at-clause-result : goal.returns-then-has_edge_by_way_of_at-clause-result
returns-then-has_edge_by_way_of_at-clause-result c keeps tells =
    sym (here_passes (waits_by_way_of c.args.tree.now keeps c.args.waits.now.waits c.args.txn c.args.target.now) c.args.waits.now.waits c.loop-place.place (sym (c.has_edge_by_way_of_at.ensures keeps tells) ∙ c.if-has_edge_by_way_of_at.true))

pub returns-clause-result : goal.returns-clause-result
returns-clause-result c keeps tells =
    sym (c.loop-place.invariant keeps tells) ∙ ap (list_any (waits_by_way_of c.args.tree.now keeps c.args.waits.now.waits c.args.txn c.args.target.now)) (take_all c.loop-place.place c.args.waits.now.waits (omega (arith, c.loop-place-test.false, c.len-count.ensures.len)))
