use Rattle.std.proofs.Common.{ap, sym, ◌∙◌}
use Rattle.txn_cells.specs.Kept.{Held, holds}
use Rattle.txn_cells.proofs.Placing.{kept_at, keys_stay, lent_at, same_at, set_at}
use Rattle.txn_cells.proofs.places.Places.join.Goals as goal

pub join-requires : goal.join-requires
join-requires g c =
    let m = c.self.inside.holders in
    let at =
    lent_at m c.args.self.now c.unwrap-place.result c.args.key.now c.get_index_mut.result c.unwrap.result c.get_index_mut.ensures.unique c.self.view_is
    (rw c.unwrap-place.ensures at c.index_of.ensures.some) c.get_index_mut.ensures.value c.unwrap.ensures in
    ap (λ (h : Held _). holds h c.args.txn) (sym (kept_at at)) ∙ c.requires

pub returns : goal.returns
returns g c =
    let now = c.join.new.self in
    let m = c.self.inside.holders in
    let at =
    lent_at m c.args.self.now c.unwrap-place.result c.args.key.now c.get_index_mut.result c.unwrap.result c.get_index_mut.ensures.unique c.self.view_is
    (rw c.unwrap-place.ensures at c.index_of.ensures.some) c.get_index_mut.ensures.value c.unwrap.ensures in
    record {
      keys = keys_stay at now;
      contents = set_at at now c.args.txn (g.V.Inherit.joined c.args.added) c.join.ensures.contents;
      places = λ u. same_at at now (λ h. holds h u) (c.join.ensures.places u);
    }
