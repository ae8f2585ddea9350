use Rattle.std.proofs.Common.{sym}
use Rattle.std.specs.Map.{keys_of}
use Rattle.txn_cells.proofs.Placing.{place_found}
use Rattle.txn_cells.proofs.places.Places.index_of.Goals as goal

pub returns-in-None-clause-some : goal.returns-in-None-clause-some
returns-in-None-clause-some g c =
    rw (sym c.self.view_is) (place_found c.args.key.now (keys_of c.self.inside.holders.entries) c.get_index_of.result c.get_index_of.ensures.index)
