use Rattle.std.proofs.Common.{sym}
use Rattle.inherit.proofs.estate.Estate.reserve_hand_up.Goals as goal

pub returns-in-None-clause-succeeds : goal.returns-in-None-clause-succeeds
returns-in-None-clause-succeeds c = rw (c.in-None.is, sym c.self.view_is) c.reserve_for_base.ensures.succeeds
