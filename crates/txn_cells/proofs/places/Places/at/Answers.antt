use Rattle.std.proofs.Common.{sym}
use Rattle.txn_cells.proofs.Viewed.{lent}
use Rattle.txn_cells.proofs.places.Places.at.Goals as goal

pub returns-clause-some : goal.returns-clause-some
returns-clause-some g c = rw (sym c.self.view_is) (lent c.self.inside.holders.entries c.args.key.now c.get.result c.get.ensures.value)
