use Rattle.std.proofs.Common.{sym}
use Rattle.std.specs.Map.{keys_of}
use Rattle.txn_cells.proofs.Finding.{number_found}
use Rattle.txn_cells.proofs.many_cells.ManyCells.found.Goals as goal

pub returns-clause-at : goal.returns-clause-at
returns-clause-at g c =
    rw (sym c.self.view_is) (number_found c.args.txn (keys_of c.self.inside.contents.entries) c.in_ok-index.index (sym c.in_ok-index.ensures.index))
