use Rattle.std.proofs.Common.{◌≡◌, ℕ, ◌+◌, ◌*◌, List, length, sym, ap, ◌∙◌, add-one, arith}
use Rattle.std.proofs.Math.Nat.{suc-mul}
use Rattle.serial_spec.proofs.Exports.{take_past}
use Rattle.wait_cycles.specs.declared.waits.Wait.{Wait}
use Rattle.wait_graph.specs.Edges.{edges_of}
use Rattle.wait_cycles.specs.Cycles.{waits_in}
use Rattle.wait_graph.proofs.Alike.{alike_next}
use Rattle.wait_graph.proofs.edges.collect_edges.Goals as goal
use Rattle.wait_graph.proofs.edges.collect_edges.Goals.{in-Some, in_default}

pub loop-place-preserved : goal.loop-place-preserved
loop-place-preserved c =
    let vs : List Wait = c.args.waits.now.waits in
    let i : ℕ = c.loop-place.place in
    let inv = c.loop-place.invariant in
    let more : (i + 1) * length vs ≡ i * length vs + length vs = ap (λ n. n * length vs) (add-one i) ∙ suc-mul i (length vs) in
    elim c.match-at.branch [
      | in-Some w ↦
          rw w.edges-is (
            λ keeps tells. alike_next c.args.tree.now keeps vs i w.in-Some.wait.now _ _ (sym w.in-Some.ensures.wait) (inv.0 keeps tells) (w.add_edges_from.ensures.edges keeps tells),
            omega (arith, inv.1, w.add_edges_from.ensures.len, more),
            omega (arith, inv.2, w.add_edges_from.ensures.capacity),
          )
      | in_default w ↦
          rw w.edges-is (
            λ keeps tells a b. inv.0 keeps tells a b ∙ ap (λ xs. waits_in (edges_of c.args.tree.now keeps xs vs) a b) (sym (take_past vs i (sym w.in_default.ensures.wait))),
            omega (arith, inv.1, more),
            inv.2,
          )
    ]
