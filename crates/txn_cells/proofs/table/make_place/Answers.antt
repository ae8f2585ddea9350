use Rattle.std.proofs.Common.{refl, ap, ◌∙◌, nat_eq, ◌&&◌, ◌||◌}
use Rattle.std.proofs.lemmas.Result.{on_ok_weaker, on_err_weaker}
use Rattle.txn_names.specs.Path.{label_eq}
use Rattle.txn_cells.specs.Kept.{Held, holds}
use Rattle.txn_cells.proofs.Placing.{placed_stay}
use Rattle.txn_cells.proofs.table.make_place.Goals as goal

pub returns-in_err-place-clause-placed : goal.returns-in_err-place-clause-placed
returns-in_err-place-clause-placed g c = placed_stay c.args.places.now c.place_for.new.self c.args.keys.now c.args.keys.now c.place_for.ensures.stay (λ u. refl) c.requires.placed

pub make_place_at-requires-clause-placed : goal.make_place_at-requires-clause-placed
make_place_at-requires-clause-placed g c = placed_stay c.args.places.now c.place_for.new.self c.args.keys.now c.args.keys.now c.place_for.ensures.stay (λ u. refl) c.requires.placed

pub returns-clause-ok : goal.returns-clause-ok
returns-clause-ok g c =
    let held = c.place_for.ensures.held in
    on_ok_weaker c.make_place_at.result (λ made u q. made u q ∙ ap (λ (h : Held _). (nat_eq c.args.txn u && label_eq c.args.key.now q) || holds h u) (held q)) c.make_place_at.ensures.ok

pub returns-clause-err : goal.returns-clause-err
returns-clause-err g c =
    let held = c.place_for.ensures.held in
    on_err_weaker c.make_place_at.result (λ unmade u q. unmade u q ∙ ap (λ (h : Held _). holds h u) (held q)) c.make_place_at.ensures.err
