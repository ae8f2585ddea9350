use Rattle.std.proofs.Common.{refl}
use Rattle.txn_history.proofs.LineStates.{none_known}
use Rattle.txn_history.proofs.line_states.LineStates.new.Goals as goal

pub returns : goal.returns
returns c = none_known 64 _ refl c.new.ensures.empty
