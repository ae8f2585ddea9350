use Rattle.std.proofs.Common.{nat_eq, ◌&&◌, Some, if◌then◌else◌, ap, sym, ◌∙◌}
use Rattle.txn_names.specs.Path.{label_eq}
use Rattle.txn_cells.specs.Kept.{AreListed}
use Rattle.txn_cells.proofs.Seen.{seen_content, seen_place}
use Rattle.txn_cells.proofs.table.CellTable.join.Goals as goal

pub join-requires : goal.join-requires
join-requires g c =
    let t = c.self.inside in
    sym (seen_place t.places t.keys c.self.invariant.0 c.args.txn c.args.key.now) ∙ (rw (sym c.self.view_is) at c.requires.place)

pub returns-clause-contents : goal.returns-clause-contents
returns-clause-contents g c =
    let t = c.self.inside in
    let listed : AreListed c.join.new.self t.keys = λ u q. c.join.ensures.places u q ∙ c.self.invariant.0 u q in
    rw (sym c.self.view_is)
    (λ u q.
    seen_content c.join.new.self t.keys listed u q
    ∙ c.join.ensures.contents u q
    ∙ ap (λ o. if nat_eq c.args.txn u && label_eq c.args.key.now q then Some (g.V.Inherit.joined c.args.added o) else o) (sym (seen_content t.places t.keys c.self.invariant.0 u q)))

pub returns-clause-places : goal.returns-clause-places
returns-clause-places g c =
    let t = c.self.inside in
    let listed : AreListed c.join.new.self t.keys = λ u q. c.join.ensures.places u q ∙ c.self.invariant.0 u q in
    rw (sym c.self.view_is)
    (λ u q. seen_place c.join.new.self t.keys listed u q ∙ c.join.ensures.places u q ∙ sym (seen_place t.places t.keys c.self.invariant.0 u q))
