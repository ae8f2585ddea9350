use Rattle.std.proofs.Common.{sym, ◌∙◌}
use Rattle.std.proofs.lemmas.Map.Made.{keys_of-zip}
use Rattle.txn_cells.proofs.key_lists.KeyList.keys.Goals as goal

pub returns-clause-same : goal.returns-clause-same
returns-clause-same c =
    let l = c.self.inside in
    rw (sym c.self.view_is) (c.as_slice.ensures.value ∙ sym (keys_of-zip l.keys.items l.places.items c.self.invariant.1))
