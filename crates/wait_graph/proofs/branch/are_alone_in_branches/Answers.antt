use Rattle.std.proofs.Common.{sym, ap, ◌∙◌, arith, Some}
use Rattle.std.proofs.lemmas.List.{take_all}
use Rattle.std.proofs.lemmas.Option.{slice_get-get_or}
use Rattle.wait_graph.proofs.Alone.{one_more_own}
use Rattle.wait_graph.proofs.branch.are_alone_in_branches.Goals as goal

pub loop-place-preserved : goal.loop-place-preserved
loop-place-preserved c =
    let i = c.loop-place.place in
    let u = c.index-blockers-place.result in
    let at = slice_get-get_or c.args.blockers.now i u (omega (arith, c.loop-place-test.true)) ∙ ap Some (sym c.index-blockers-place.is) in
    one_more_own c.args.tree.now c.args.txn c.args.blockers.now i u at c.loop-place.invariant (c.is_alone_in_branch.ensures c.if-not-is_alone_in_branch.false)

pub returns : goal.returns
returns c = λ _. rw (take_all c.loop-place.place c.args.blockers.now (omega (arith, c.loop-place-test.false))) at c.loop-place.invariant
