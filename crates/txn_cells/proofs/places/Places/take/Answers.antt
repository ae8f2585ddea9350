use Rattle.std.proofs.Common.{nat_eq, ◌||◌, ◌∙◌}
use Rattle.std.proofs.lemmas.Result.{on_ok_weaker, on_err_weaker}
use Rattle.txn_names.specs.Path.{label_eq}
use Rattle.txn_cells.specs.Kept.{holds, place_kept}
use Rattle.txn_cells.proofs.ByKey.{cond_with}
use Rattle.txn_cells.proofs.Placing.{each_at, kept_at, keys_stay, lent_at, same_at, set_at}
use Rattle.txn_cells.proofs.places.Places.take.Goals as goal

pub returns : goal.returns
returns g c =
    let t = c.args.txn in
    let now = c.take.new.self in
    let old = c.args.self.now in
    let m = c.self.inside.holders in
    let at =
    lent_at m c.args.self.now c.args.place c.args.key.now c.get_index_mut.result c.unwrap.result c.get_index_mut.ensures.unique c.self.view_is
    c.requires.at c.get_index_mut.ensures.value c.unwrap.ensures in
    record {
      keys = keys_stay at now;
      made = rw (kept_at at) c.take.ensures.made;
      contents = on_ok_weaker c.take.result (set_at at now t (g.V.Inherit.joined c.args.added)) c.take.ensures.contents;
      ok =
          on_ok_weaker c.take.result (λ added u q.
          each_at at now (λ h. holds h u) (λ h. nat_eq t u || holds h u) (added u) q
          ∙ cond_with (label_eq c.args.key.now q) (nat_eq t u) (place_kept old u q))
          c.take.ensures.ok;
      err = on_err_weaker c.take.result (same_at at now (λ h. h)) c.take.ensures.err;
      succeeds = rw (kept_at at) c.take.ensures.succeeds;
    }
