use Rattle.std.proofs.Common.{ap, sym}
use Rattle.std.specs.Map.{keys_of}
use Rattle.txn_cells.specs.Kept.{Listed}
use Rattle.txn_cells.proofs.HandedUp.{contents_seen, heirs_places, places_seen}
use Rattle.txn_cells.proofs.Placing.{keys_less}
use Rattle.txn_cells.proofs.table.CellTable.hand_up.Goals as goal

pub hand_up_all-requires-clause-places : goal.hand_up_all-requires-clause-places
hand_up_all-requires-clause-places g c =
    let t = c.self.inside in
    heirs_places t.places t.keys c.self.invariant.0 c.args.child c.heir-heir.result c.args.parent (keys_of c.take-keys.result) (ap (λ (es : Listed). keys_of es) c.take-keys.ensures.taken) c.heir-heir.ensures.parent
    (rw (sym c.self.view_is) at c.requires.places)

pub returns-clause-contents : goal.returns-clause-contents
returns-clause-contents g c =
    let t = c.self.inside in
    let e = c.hand_up_all.ensures in
    let less = keys_less t.keys c.take-keys.new.self c.args.child c.take-keys.ensures.lists in
    rw (sym c.self.view_is)
    (contents_seen t.places t.keys c.self.invariant.0 c.args.child c.heir-heir.result c.args.parent (keys_of c.take-keys.result) (ap (λ (es : Listed). keys_of es) c.take-keys.ensures.taken) g.V.Inherit.inherited
    c.hand_up_all.new.self c.take-keys.new.self c.heir-heir.ensures.same less e.contents e.places)

pub returns-clause-places : goal.returns-clause-places
returns-clause-places g c =
    let t = c.self.inside in
    let e = c.hand_up_all.ensures in
    let less = keys_less t.keys c.take-keys.new.self c.args.child c.take-keys.ensures.lists in
    rw (sym c.self.view_is)
    (places_seen t.places t.keys c.self.invariant.0 c.args.child c.heir-heir.result c.args.parent (keys_of c.take-keys.result) (ap (λ (es : Listed). keys_of es) c.take-keys.ensures.taken) g.V.Inherit.inherited
    c.hand_up_all.new.self c.take-keys.new.self c.heir-heir.ensures.same less e.contents e.places)
