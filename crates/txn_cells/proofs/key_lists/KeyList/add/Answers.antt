use Rattle.std.proofs.Common.{[], ◌∷◌, length, length-append, ap, sym, ◌∙◌, arith}
use Rattle.std.proofs.lemmas.Cmp.{nat_list_eq_equiv}
use Rattle.std.proofs.lemmas.Map.Keys.{IsDistinct-push}
use Rattle.std.proofs.lemmas.Map.Made.{keys_of-zip}
use Rattle.txn_cells.proofs.Zipped.{zip-push}
use Rattle.txn_cells.proofs.key_lists.KeyList.add.Goals as goal

pub invariant_of-self : goal.invariant_of-self
invariant_of-self c = (c.self.invariant.0, ap length c.reserve.ensures.items ∙ c.self.invariant.1)

pub invariant_of-self-2 : goal.invariant_of-self-2
invariant_of-self-2 c =
    let l = c.self.inside in
    let i = c.self.invariant in
    let keys = rw (c.unwrap.ensures, c.reserve-2.ensures.items) at c.push.ensures.items in
    let places = rw (c.unwrap-2.ensures, c.reserve.ensures.items) at c.push-2.ensures.items in
    let fresh = rw (sym c.self.view_is, keys_of-zip l.keys.items l.places.items i.1) at c.requires in
    rw (keys, places) (
      IsDistinct-push nat_list_eq_equiv l.keys.items c.args.key.now i.0 fresh,
      omega (arith, length-append l.places.items (c.args.place ∷ []), length-append l.keys.items (c.args.key.now ∷ []), i.1),
    )

pub returns-clause-ok : goal.returns-clause-ok
returns-clause-ok c =
    let l = c.self.inside in
    let keys = rw (c.unwrap.ensures, c.reserve-2.ensures.items) at c.push.ensures.items in
    let places = rw (c.unwrap-2.ensures, c.reserve.ensures.items) at c.push-2.ensures.items in
    rw (sym c.self.view_is, keys, places) (zip-push l.keys.items l.places.items c.args.key.now c.args.place c.self.invariant.1)
