use Rattle.std.proofs.Common.{nat_eq, ◌&&◌, ◌||◌, Some, if◌then◌else◌, ap, refl, sym, ◌∙◌, rules}
use Rattle.std.specs.Prelude.{IsOk}
use Rattle.std.proofs.lemmas.Result.{on_ok_weaker, on_err_weaker}
use Rattle.txn_names.specs.Path.{label_eq}
use Rattle.txn_cells.specs.Kept.{AreListed, Held, content_of, holds}
use Rattle.txn_cells.proofs.Placing.{placed_stay}
use Rattle.txn_cells.proofs.Puts.{at_err}
use Rattle.txn_cells.proofs.Seen.{seen_content, seen_place}
use Rattle.txn_cells.proofs.table.CellTable.take.Goals as goal

pub invariant_of-self : goal.invariant_of-self
invariant_of-self g c =
    let t = c.self.inside in
    let held = c.place_for.ensures.held in (
      λ u q. ap (λ (h : Held _). holds h u) (held q) ∙ c.self.invariant.0 u q,
      placed_stay t.places c.place_for.new.self t.keys t.keys c.place_for.ensures.stay (λ u. refl) c.self.invariant.1,
    )

pub returns-in_err-place-clause-kept : goal.returns-in_err-place-clause-kept
returns-in_err-place-clause-kept g c =
    let t = c.self.inside in
    let new = c.place_for.new.self in
    let held = c.place_for.ensures.held in
    let listed : AreListed new t.keys = λ u q. ap (λ (h : Held _). holds h u) (held q) ∙ c.self.invariant.0 u q in
    rw (sym c.self.view_is)
    (at_err c.from_residual.result (λ u q.
    seen_content new t.keys listed u q
    ∙ ap (λ (h : Held _). content_of h u) (held q)
    ∙ sym (seen_content t.places t.keys c.self.invariant.0 u q)))

pub returns-in_err-place-clause-err : goal.returns-in_err-place-clause-err
returns-in_err-place-clause-err g c =
    let t = c.self.inside in
    let new = c.place_for.new.self in
    let held = c.place_for.ensures.held in
    let listed : AreListed new t.keys = λ u q. ap (λ (h : Held _). holds h u) (held q) ∙ c.self.invariant.0 u q in
    rw (sym c.self.view_is)
    (at_err c.from_residual.result (λ u q.
    seen_place new t.keys listed u q
    ∙ ap (λ (h : Held _). holds h u) (held q)
    ∙ sym (seen_place t.places t.keys c.self.invariant.0 u q)))

pub returns-in_err-place-clause-succeeds : goal.returns-in_err-place-clause-succeeds
returns-in_err-place-clause-succeeds g c =
    let t = c.self.inside in
    rw (sym c.self.view_is) (λ there.
    let ok : IsOk c.place_for.result = c.place_for.ensures.succeeds c.args.txn (sym (seen_place t.places t.keys c.self.invariant.0 c.args.txn c.args.key.now) ∙ there) in
    search rules)

pub take_at-requires-clause-placed : goal.take_at-requires-clause-placed
take_at-requires-clause-placed g c =
    let t = c.self.inside in
    placed_stay t.places c.place_for.new.self t.keys t.keys c.place_for.ensures.stay (λ u. refl) c.self.invariant.1

pub returns-clause-contents : goal.returns-clause-contents
returns-clause-contents g c =
    let t = c.self.inside in
    let m = c.take_at in
    let held = c.place_for.ensures.held in
    rw (sym c.self.view_is)
    (on_ok_weaker m.result
    (λ taken u q.
    seen_content m.new.places m.new.keys m.ensures.listed u q
    ∙ taken u q
    ∙ ap (λ o. if nat_eq c.args.txn u && label_eq c.args.key.now q then Some (g.V.Inherit.joined c.args.added o) else o)
    (ap (λ (h : Held _). content_of h u) (held q) ∙ sym (seen_content t.places t.keys c.self.invariant.0 u q)))
    m.ensures.contents)

pub returns-clause-ok : goal.returns-clause-ok
returns-clause-ok g c =
    let t = c.self.inside in
    let m = c.take_at in
    let held = c.place_for.ensures.held in
    rw (sym c.self.view_is)
    (on_ok_weaker m.result
    (λ made u q.
    seen_place m.new.places m.new.keys m.ensures.listed u q
    ∙ made u q
    ∙ ap (λ b. (nat_eq c.args.txn u && label_eq c.args.key.now q) || b)
    (ap (λ (h : Held _). holds h u) (held q) ∙ sym (seen_place t.places t.keys c.self.invariant.0 u q)))
    m.ensures.ok)

pub returns-clause-kept : goal.returns-clause-kept
returns-clause-kept g c =
    let t = c.self.inside in
    let m = c.take_at in
    let held = c.place_for.ensures.held in
    rw (sym c.self.view_is)
    (on_err_weaker m.result
    (λ kept u q.
    seen_content m.new.places m.new.keys m.ensures.listed u q
    ∙ kept u q
    ∙ ap (λ (h : Held _). content_of h u) (held q)
    ∙ sym (seen_content t.places t.keys c.self.invariant.0 u q))
    m.ensures.kept)

pub returns-clause-err : goal.returns-clause-err
returns-clause-err g c =
    let t = c.self.inside in
    let m = c.take_at in
    let held = c.place_for.ensures.held in
    rw (sym c.self.view_is)
    (on_err_weaker m.result
    (λ unmade u q.
    seen_place m.new.places m.new.keys m.ensures.listed u q
    ∙ unmade u q
    ∙ ap (λ (h : Held _). holds h u) (held q)
    ∙ sym (seen_place t.places t.keys c.self.invariant.0 u q))
    m.ensures.err)

pub returns-clause-succeeds : goal.returns-clause-succeeds
returns-clause-succeeds g c =
    let t = c.self.inside in
    rw (sym c.self.view_is) (λ there. c.take_at.ensures.succeeds
    (ap (λ (h : Held _). holds h c.args.txn) (c.place_for.ensures.held c.args.key.now)
    ∙ sym (seen_place t.places t.keys c.self.invariant.0 c.args.txn c.args.key.now) ∙ there))
