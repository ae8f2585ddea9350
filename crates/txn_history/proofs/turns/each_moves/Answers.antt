use Rattle.txn_history.proofs.Rounds.{steps_move}
use Rattle.txn_history.proofs.turns.each_moves.Goals as goal

pub returns : goal.returns
returns c = steps_move
