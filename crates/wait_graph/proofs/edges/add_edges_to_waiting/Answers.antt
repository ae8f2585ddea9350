use Rattle.std.proofs.Common.{◌≡◌, ℕ, ◌+◌, Bool, true, false, cond, List, [], ◌∷◌, ◌++◌, take, Some, sym, ap, ◌∙◌, arith}
use Rattle.std.specs.Prelude.{slice_get}
use Rattle.std.proofs.lemmas.List.{append_assoc, append-nil}
use Rattle.wait_cycles.specs.declared.waits.Wait.{Wait}
use Rattle.wait_graph.specs.Edges.{Keeps, edges_from, waits_for_in}
use Rattle.serial_spec.proofs.Exports.{take_past}
use Rattle.wait_graph.proofs.HeldUp.{edges_more}
use Rattle.wait_graph.proofs.Walking.{longer_pushed}
use Rattle.wait_graph.proofs.edges.add_edges_to_waiting.Goals as goal
use Rattle.wait_graph.proofs.edges.add_edges_to_waiting.Goals.{in-Some+then-has_edge, in-Some+else-has_edge, in_default}

pub loop-place-preserved : goal.loop-place-preserved
loop-place-preserved c =
    let vs : List Wait = c.args.waits.now.waits in
    let wait : Wait = c.args.wait.now in
    let i : ℕ = c.loop-place.place in
    let first : List (ℕ × ℕ) = c.args.edges.now.items in
    let inv = c.loop-place.invariant in
    let next : (keeps : Keeps) (v : Wait) → slice_get vs i ≡ Some v → (b : Bool) → waits_for_in c.args.tree.now keeps wait v.txn ≡ b
    → (first ++ edges_from c.args.tree.now keeps (take i vs) wait) ++ cond b ((wait.txn, v.txn) ∷ []) [] ≡ first ++ edges_from c.args.tree.now keeps (take (i + 1) vs) wait
    = λ keeps v at b is.
    append_assoc first (edges_from c.args.tree.now keeps (take i vs) wait) (cond b ((wait.txn, v.txn) ∷ []) [])
    ∙ ap (λ xs. first ++ xs) (sym (edges_more c.args.tree.now keeps wait vs i v at ∙ ap (λ x. edges_from c.args.tree.now keeps (take i vs) wait ++ cond x ((wait.txn, v.txn) ∷ []) []) is)) in
    elim c.match-at.branch [
      | in-Some+then-has_edge w ↦
          rw w.edges-is (
            λ keeps tells.
                w.push_reserved.ensures.items
                ∙ ap (λ xs. xs ++ (wait.txn, w.in-Some.other.now.txn) ∷ []) (inv.0 keeps tells)
                ∙ next keeps w.in-Some.other.now (sym w.in-Some.ensures.wait) true (sym (w.has_edge.ensures keeps tells) ∙ w.if-has_edge.true),
            omega (arith, inv.1, w.push_reserved.ensures.len),
            omega (arith, inv.2, w.push_reserved.ensures.capacity),
            rw w.push_reserved.ensures.items (longer_pushed first c.loop-place.edges.items (wait.txn, w.in-Some.other.now.txn) inv.3),
          )
      | in-Some+else-has_edge w ↦
          rw w.edges-is (
            λ keeps tells.
                inv.0 keeps tells ∙ sym (append-nil _)
                ∙ next keeps w.in-Some.other.now (sym w.in-Some.ensures.wait) false (sym (w.has_edge.ensures keeps tells) ∙ w.if-has_edge.false),
            omega (arith, inv.1),
            inv.2,
            inv.3,
          )
      | in_default w ↦
          rw w.edges-is (
            λ keeps tells. inv.0 keeps tells ∙ ap (λ xs. first ++ edges_from c.args.tree.now keeps xs wait) (sym (take_past vs i (sym w.in_default.ensures.wait))),
            omega (arith, inv.1),
            inv.2,
            inv.3,
          )
    ]
