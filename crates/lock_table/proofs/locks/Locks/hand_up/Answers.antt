use Rattle.std.proofs.Common.{nat_eq, sym}
use Rattle.lock_table.proofs.Bare.{free_handed_up, no_place_left}
use Rattle.lock_table.proofs.locks.Locks.hand_up.Goals as goal

pub returns-then-is_empty-clause-modes : goal.returns-then-is_empty-clause-modes
returns-then-is_empty-clause-modes c = rw (sym c.self.view_is) (free_handed_up c.self.inside.table (c.is_empty.ensures.0 c.if-is_empty.true) c.args.child c.args.parent)

pub returns-then-is_empty-clause-places : goal.returns-then-is_empty-clause-places
returns-then-is_empty-clause-places c = rw (sym c.self.view_is) (λ u q. no_place_left c.self.inside.table (c.is_empty.ensures.0 c.if-is_empty.true) (nat_eq c.args.child u) u q)
