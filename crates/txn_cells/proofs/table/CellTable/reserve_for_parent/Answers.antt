use Rattle.std.proofs.Common.{sym, ◌∙◌}
use Rattle.std.proofs.lemmas.Result.{on_ok_weaker, on_err_weaker}
use Rattle.txn_cells.specs.Kept.{has_place, place_kept, seen}
use Rattle.txn_cells.proofs.Seen.{childs_seen, seen_content, seen_place, towards_seen}
use Rattle.txn_cells.proofs.table.CellTable.reserve_for_parent.Goals as goal

pub returns-clause-contents : goal.returns-clause-contents
returns-clause-contents g c =
    let t = c.self.inside in
    let m = c.make_places in
    rw (sym c.self.view_is) (λ u q. seen_content m.new.places m.new.keys m.ensures.listed u q ∙ m.ensures.contents u q ∙ sym (seen_content t.places t.keys c.self.invariant.0 u q))

pub returns-clause-ok : goal.returns-clause-ok
returns-clause-ok g c =
    let t = c.self.inside in
    let m = c.make_places in
    let was = seen_place t.places t.keys c.self.invariant.0 in
    let is = seen_place m.new.places m.new.keys m.ensures.listed in
    rw (sym c.self.view_is)
    (on_ok_weaker m.result
    (λ made u q. is u q ∙ made u q ∙ childs_seen (place_kept t.places) (place_kept m.new.places) (has_place (seen t.keys t.places)) (has_place (seen m.new.keys m.new.places)) was is c.args.child c.args.parent u q)
    m.ensures.ok)

pub returns-clause-err : goal.returns-clause-err
returns-clause-err g c =
    let t = c.self.inside in
    let m = c.make_places in
    let was = seen_place t.places t.keys c.self.invariant.0 in
    let is = seen_place m.new.places m.new.keys m.ensures.listed in
    rw (sym c.self.view_is)
    (on_err_weaker m.result
    (towards_seen (place_kept t.places) (place_kept m.new.places) (has_place (seen t.keys t.places)) (has_place (seen m.new.keys m.new.places)) was is c.args.child c.args.parent)
    m.ensures.err)

pub returns-clause-succeeds : goal.returns-clause-succeeds
returns-clause-succeeds g c =
    let t = c.self.inside in
    let m = c.make_places in
    let was = seen_place t.places t.keys c.self.invariant.0 in
    rw (sym c.self.view_is) (λ all. m.ensures.succeeds (λ q there. sym (was c.args.parent q) ∙ all q (was c.args.child q ∙ there)))
