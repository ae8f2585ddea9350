use Rattle.std.proofs.Common.{nat_eq, ◌&&◌, ◌||◌, ap, sym, ◌∙◌}
use Rattle.std.proofs.lemmas.Result.{on_ok_weaker, on_err_weaker}
use Rattle.txn_names.specs.Path.{label_eq}
use Rattle.txn_cells.proofs.Seen.{seen_content, seen_place}
use Rattle.txn_cells.proofs.table.CellTable.reserve.Goals as goal

pub returns-clause-contents : goal.returns-clause-contents
returns-clause-contents g c =
    let t = c.self.inside in
    let m = c.make_place in
    rw (sym c.self.view_is) (λ u q. seen_content m.new.places m.new.keys m.ensures.listed u q ∙ m.ensures.contents u q ∙ sym (seen_content t.places t.keys c.self.invariant.0 u q))

pub returns-clause-ok : goal.returns-clause-ok
returns-clause-ok g c =
    let t = c.self.inside in
    let m = c.make_place in
    rw (sym c.self.view_is)
    (on_ok_weaker m.result
    (λ made u q. seen_place m.new.places m.new.keys m.ensures.listed u q ∙ made u q ∙ ap (λ b. (nat_eq c.args.txn u && label_eq c.args.key.now q) || b) (sym (seen_place t.places t.keys c.self.invariant.0 u q)))
    m.ensures.ok)

pub returns-clause-err : goal.returns-clause-err
returns-clause-err g c =
    let t = c.self.inside in
    let m = c.make_place in
    rw (sym c.self.view_is)
    (on_err_weaker m.result (λ unmade u q. seen_place m.new.places m.new.keys m.ensures.listed u q ∙ unmade u q ∙ sym (seen_place t.places t.keys c.self.invariant.0 u q)) m.ensures.err)

pub returns-clause-succeeds : goal.returns-clause-succeeds
returns-clause-succeeds g c =
    let t = c.self.inside in
    rw (sym c.self.view_is) (λ there. c.make_place.ensures.succeeds (sym (seen_place t.places t.keys c.self.invariant.0 c.args.txn c.args.key.now) ∙ there))
