use Rattle.std.proofs.Common.{◌≡◌, Some, not, ap, sym, ◌∙◌}
use Rattle.std.specs.Prelude.{slice_get}
use Rattle.std.specs.Map.{keys_of}
use Rattle.txn_cells.proofs.Holding.{holds_at, put_joined, still_or}
use Rattle.txn_cells.proofs.key_cells.KeyCells.take.Goals as goal

pub returns-in-Some-clause-made : goal.returns-in-Some-clause-made
returns-in-Some-clause-made g c =
    ap not (sym (holds_at c.args.self.now c.args.txn c.in-Some.index c.in-Some.ensures.at))

pub returns-in-Some-clause-ok : goal.returns-in-Some-clause-ok
returns-in-Some-clause-ok g c =
    let held = c.self.inside.cells in
    let at : slice_get (keys_of held) c.in-Some.index ≡ Some c.args.txn = rw (sym c.self.view_is) at c.in-Some.ensures.at in
    rw (sym c.self.view_is) (λ u. c.put_at.ensures.places u ∙ sym (still_or held c.args.txn u (holds_at held c.args.txn c.in-Some.index at)))

pub returns-clause-contents : goal.returns-clause-contents
returns-clause-contents g c =
    let put = rw c.join-2.ensures at c.put_at-2.ensures.contents in
    rw (sym c.self.view_is)
    (λ u. put u
    ∙ put_joined c.self.inside.cells c.insert.new.self c.args.txn (g.V.Inherit.joined c.args.added) (rw (sym c.self.view_is) at c.in_default.ensures.none) c.in_ok-index.ensures.changed u)
