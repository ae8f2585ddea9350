use Rattle.std.proofs.Common.{◌≡◌, ℕ, Bool, Option, Some, sym, ap, ◌∙◌}
use Rattle.std.specs.Prelude.{if◌then◌else◌}
use Rattle.serial_spec.specs.History.{or_else}
use Rattle.txn_tree.proofs.Climbing.{climbed, lower, name_by, top_above}
use Rattle.txn_tree.proofs.tree.Tree.top_aborted_at.Goals as goal
use Rattle.txn_tree.proofs.tree.Tree.top_aborted_at.Goals.{then-has_aborted_at, else-has_aborted_at}

pub loop-above-smaller : goal.loop-above-smaller
loop-above-smaller c =
    rw c.in-Some.is (lower c.parent_of-above.result c.in-Some.number c.parent_of-above.ensures.earlier)

pub loop-above-preserved : goal.loop-above-preserved
loop-above-preserved c =
    let tree = c.args.self.now in
    let n = c.in-Some.number in
    let b = c.has_aborted_at.result in
    let top : c.if-has_aborted_at.top ≡ (if b then Some n else c.loop-above.top) =
    elim c.if-has_aborted_at.branch [
      | then-has_aborted_at w ↦ w.top-is ∙ ap (λ (x : Bool). if x then Some n else c.loop-above.top) (sym w.if-has_aborted_at.true)
      | else-has_aborted_at w ↦ w.top-is ∙ ap (λ (x : Bool). if x then Some n else c.loop-above.top) (sym w.if-has_aborted_at.false)
    ] in
    c.loop-above.invariant
    ∙ ap (λ (o : Option ℕ). or_else (top_above tree o) (name_by tree c.loop-above.top)) c.in-Some.is
    ∙ climbed tree c.has_distinct_names.ensures n c.parent_of-above.result c.loop-above.top b c.has_aborted_at.ensures
    c.parent_of-above.ensures.some c.parent_of-above.ensures.named
    ∙ ap (λ (o : Option ℕ). or_else (top_above tree c.parent_of-above.result) (name_by tree o)) (sym top)
