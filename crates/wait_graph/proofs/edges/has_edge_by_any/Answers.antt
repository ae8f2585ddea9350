use Rattle.std.proofs.Common.{Some, sym, ap, ◌∙◌, arith}
use Rattle.std.specs.List.{list_any}
use Rattle.std.proofs.lemmas.List.{take_all}
use Rattle.std.proofs.lemmas.Option.{slice_get-get_or}
use Rattle.wait_graph.specs.Edges.{is_held_up}
use Rattle.wait_graph.proofs.Passing.{any_got, any_next}
use Rattle.wait_graph.proofs.edges.has_edge_by_any.Goals as goal

pub loop-place-preserved : goal.loop-place-preserved
loop-place-preserved c keeps tells =
    let i = c.loop-place.place in
    let u = c.index-holders-place.result in
    let at = slice_get-get_or c.args.holders.now i u (omega (arith, c.loop-place-test.true)) ∙ ap Some (sym c.index-holders-place.is) in
    any_next (is_held_up c.args.tree.now keeps c.args.wait.now c.args.other) c.args.holders.now i u at (c.loop-place.invariant keeps tells)
    (sym (c.has_edge_by.ensures keeps tells) ∙ c.if-has_edge_by.false)

pub returns-then-has_edge_by : goal.returns-then-has_edge_by
returns-then-has_edge_by c keeps tells =
    let i = c.loop-place.place in
    let u = c.index-holders-place.result in
    let at = slice_get-get_or c.args.holders.now i u (omega (arith, c.loop-place-test.true)) ∙ ap Some (sym c.index-holders-place.is) in
    sym (any_got (is_held_up c.args.tree.now keeps c.args.wait.now c.args.other) c.args.holders.now i u at (sym (c.has_edge_by.ensures keeps tells) ∙ c.if-has_edge_by.true))

pub returns : goal.returns
returns c keeps tells =
    sym (c.loop-place.invariant keeps tells) ∙ ap (list_any (is_held_up c.args.tree.now keeps c.args.wait.now c.args.other)) (take_all c.loop-place.place c.args.holders.now (omega (arith, c.loop-place-test.false)))
