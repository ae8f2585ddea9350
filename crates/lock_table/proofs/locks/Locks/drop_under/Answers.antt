use Rattle.std.proofs.Common.{sym}
use Rattle.lock_table.specs.Blocking.{is_under}
use Rattle.lock_table.proofs.Bare.{free_dropped, no_place_left}
use Rattle.lock_table.proofs.locks.Locks.drop_under.Goals as goal

pub returns-then-is_empty-clause-modes : goal.returns-then-is_empty-clause-modes
returns-then-is_empty-clause-modes c = rw (sym c.self.view_is) (λ u q. free_dropped c.self.inside.table (c.is_empty.ensures.0 c.if-is_empty.true) (is_under c.args.tree.now c.args.txn u) u q)

pub returns-then-is_empty-clause-places : goal.returns-then-is_empty-clause-places
returns-then-is_empty-clause-places c = rw (sym c.self.view_is) (λ u q. no_place_left c.self.inside.table (c.is_empty.ensures.0 c.if-is_empty.true) (is_under c.args.tree.now c.args.txn u) u q)
