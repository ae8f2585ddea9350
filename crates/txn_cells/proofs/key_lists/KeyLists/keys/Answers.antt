use Rattle.std.specs.List.{IsDistinct}
use Rattle.txn_cells.proofs.key_lists.KeyLists.keys.Goals as goal

pub returns-in-None-clause-once : goal.returns-in-None-clause-once
unfolding IsDistinct
returns-in-None-clause-once c = tt
