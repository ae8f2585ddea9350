use Rattle.std.proofs.Common.{List, ℕ, Some, ap, sym, ◌∙◌}
use Rattle.txn_names.proofs.Exports.{same_label}
use Rattle.txn_cells.specs.Kept.{Held}
use Rattle.txn_cells.proofs.Placing.{key_listed}
use Rattle.txn_cells.proofs.places.Places.remembered.Goals as goal

pub returns-then-eq : goal.returns-then-eq
returns-then-eq g c =
    let es = c.self.inside.holders.entries in
    let e : List ℕ × Held _ = (c.in_ok-recent.recent.now, c.in_ok-recent.field-0-1.now) in
    rw (sym c.self.view_is)
    (key_listed es c.self.inside.recent e (sym c.in_ok-recent.ensures.entry)
    ∙ ap (λ (k : List ℕ). Some k) (same_label c.in_ok-recent.recent.now c.args.key.now (sym c.eq.ensures ∙ c.if-eq.true)))
