use Rattle.std.proofs.Common.{◌≡◌, inl, inr, sym, ap, ◌∙◌, arith}
use Rattle.std.proofs.lemmas.Bool.{cases_lt}
use Rattle.lock_table.specs.Targeted.{is_listed}
use Rattle.wait_graph.specs.Edges.{is_held_up}
use Rattle.wait_graph.proofs.HeldUp.{found_here, found_nowhere, none_of_those}
use Rattle.wait_graph.proofs.edges.has_edge_by_lists.Goals as goal

pub loop-place-preserved : goal.loop-place-preserved
loop-place-preserved c keeps tells p within v listed =
    elim (cases_lt p c.loop-place.place) [
      | inl before ↦ c.loop-place.invariant keeps tells p before v listed
      | inr here ↦
          let same : c.loop-place.place ≡ p = omega (arith, here, within) in
          none_of_those (is_held_up c.args.tree.now keeps c.args.wait.now c.args.other) c.list_at.result.now
          (sym (c.has_edge_by_any.ensures keeps tells) ∙ c.if-has_edge_by_any.false) v
          (c.list_at.ensures.each v ∙ ap (λ n. is_listed c.args.locks.now c.target-target.result n v) same ∙ listed)
    ]

pub returns-then-has_edge_by_any : goal.returns-then-has_edge_by_any
returns-then-has_edge_by_any c keeps tells =
    sym (found_here c.args.tree.now keeps c.args.wait.now c.args.other c.list_at.result.now (sym (c.has_edge_by_any.ensures keeps tells) ∙ c.if-has_edge_by_any.true))

pub returns : goal.returns
returns c keeps tells =
    sym (found_nowhere c.args.tree.now keeps c.args.wait.now c.args.other c.args.locks.now c.target-target.result tells c.lists-lists.ensures.all (sym c.target-target.ensures)
    (λ p within v listed. c.loop-place.invariant keeps tells p (omega (arith, within, c.loop-place-test.false, c.lists-lists.ensures.count)) v listed))
