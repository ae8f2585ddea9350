use Rattle.std.proofs.Common.{List, ℕ, Some, sym, ap, ◌∙◌}
use Rattle.txn_names.proofs.Exports.{same_label}
use Rattle.txn_cells.proofs.key_lists.KeyLists.place_if_last.Goals as goal

pub returns-then-eq : goal.returns-then-eq
returns-then-eq c =
    let found = c.in_ok-found.found in
    let place = c.in_ok-found.place in
    let same = same_label found c.args.key.now (sym c.eq.ensures ∙ c.if-eq.true) in
    (c.in_ok-last.last, sym c.get.ensures ∙ c.in_ok-found.was ∙ ap (λ (k : List ℕ). Some (k, place)) same)
