use Rattle.std.proofs.Common.{nat_eq, not, ◌&&◌, [], subst, ◌∙◌}
use Rattle.std.specs.Prelude.{IfSome, IsTrue}
use Rattle.txn_names.specs.Path.{label_eq}
use Rattle.txn_cells.specs.Cells.{handed_up}
use Rattle.txn_cells.specs.Kept.{Held, content_of, holds, place_kept}
use Rattle.txn_cells.proofs.ByKey.{cond_without}
use Rattle.txn_cells.proofs.Placing.{each_at, kept_at, keys_stay, lent_at}
use Rattle.txn_cells.proofs.places.Places.hand_up.Goals as goal

pub hand_up-requires-clause-place : goal.hand_up-requires-clause-place
hand_up-requires-clause-place g c =
    let m = c.self.inside.holders in
    let at =
    lent_at m c.args.self.now c.args.place c.args.key.now c.get_index_mut.result c.unwrap.result c.get_index_mut.ensures.unique c.self.view_is
    c.requires.at c.get_index_mut.ensures.value c.unwrap.ensures in
    subst (λ (h : Held _). IfSome c.args.parent (λ p. IsTrue (holds h p))) (kept_at at)
    c.requires.place

pub returns : goal.returns
returns g c =
    let t = c.args.child in
    let now = c.hand_up.new.self in
    let old = c.args.self.now in
    let m = c.self.inside.holders in
    let at =
    lent_at m c.args.self.now c.args.place c.args.key.now c.get_index_mut.result c.unwrap.result c.get_index_mut.ensures.unique c.self.view_is
    c.requires.at c.get_index_mut.ensures.value c.unwrap.ensures in
    record {
      keys = keys_stay at now;
      contents = λ u.
          each_at at now (λ h. content_of h u)
          (λ h. handed_up g.V.Inherit.inherited (λ v _. content_of h v) t c.args.parent u [])
          (c.hand_up.ensures.contents u);
      places = λ u q.
          each_at at now (λ h. holds h u) (λ h. not (nat_eq t u) && holds h u)
          (c.hand_up.ensures.places u) q
          ∙ cond_without (label_eq c.args.key.now q) (nat_eq t u) (place_kept old u q);
    }
