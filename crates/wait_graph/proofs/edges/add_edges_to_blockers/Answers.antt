use Rattle.std.proofs.Common.{◌&&◌, ◌∙◌, ℕ, Bool, sym, subst, is_some, arith}
use Rattle.std.proofs.lemmas.List.{take_all}
use Rattle.wait_cycles.specs.Waiting.{wait_of}
use Rattle.wait_graph.specs.Edges.{Keeps, is_held_up}
use Rattle.wait_graph.proofs.Alike.{MadeBy, all_made, one_passed, one_pushed}
use Rattle.wait_graph.proofs.Alone.{flat_waited_for}
use Rattle.wait_graph.proofs.HeldUp.{keeps_none, left_out_holds_nobody}
use Rattle.wait_graph.proofs.Walking.{longer_pushed}
use Rattle.wait_graph.proofs.edges.add_edges_to_blockers.Goals as goal
use Rattle.wait_graph.proofs.edges.add_edges_to_blockers.Goals.{then-is_edge_to_blocker, else-is_edge_to_blocker}

pub loop-place-preserved : goal.loop-place-preserved
loop-place-preserved c =
    let i = c.loop-place.place in
    let u = c.at-blocker.result in
    let us = c.args.blockers.now in
    let wait = c.args.wait.now in
    let at = c.at-blocker.ensures in
    let inv = c.loop-place.invariant in
    let holds : Keeps → ℕ → Bool = λ keeps b. is_some (wait_of c.args.waits.now b) && is_held_up c.args.tree.now keeps wait b b in
    elim c.if-is_edge_to_blocker.branch [
      | then-is_edge_to_blocker w ↦
          rw w.edges-is (
            λ keeps tells.
                rw w.push_reserved.ensures.items
                (one_pushed (holds keeps) c.args.edges.now.items c.loop-place.edges.items wait.txn us i u at (inv.0 keeps tells)
                (sym (c.is_edge_to_blocker.ensures keeps tells) ∙ w.if-is_edge_to_blocker.true)),
            omega (arith, inv.1, w.push_reserved.ensures.len),
            omega (arith, inv.2, w.push_reserved.ensures.capacity),
            rw w.push_reserved.ensures.items (longer_pushed c.args.edges.now.items c.loop-place.edges.items (wait.txn, u) inv.3),
          )
      | else-is_edge_to_blocker w ↦
          rw w.edges-is (
            λ keeps tells.
                one_passed (holds keeps) c.args.edges.now.items c.loop-place.edges.items wait.txn us i u at (inv.0 keeps tells)
                (sym (c.is_edge_to_blocker.ensures keeps tells) ∙ w.if-is_edge_to_blocker.false),
            omega (arith, inv.1),
            inv.2,
            inv.3,
          )
    ]

pub returns-clause-edges : goal.returns-clause-edges
returns-clause-edges c keeps tells =
    let us = c.args.blockers.now in
    let wait = c.args.wait.now in
    let tree = c.args.tree.now in
    let out = keeps_none tree c.args.locks.now keeps wait us tells c.requires.all in
    all_made tree keeps wait c.args.waits.now.waits c.args.edges.now.items c.loop-place.edges.items us
    (λ b. flat_waited_for tree keeps wait b us out c.requires.alone)
    (λ b none. left_out_holds_nobody tree keeps wait b us out none)
    (subst (λ vs. MadeBy (λ b. is_some (wait_of c.args.waits.now b) && is_held_up tree keeps wait b b) c.args.edges.now.items c.loop-place.edges.items wait.txn vs)
    (take_all c.loop-place.place us (omega (arith, c.loop-place-test.false, c.len-place-end.ensures))) (c.loop-place.invariant.0 keeps tells))
