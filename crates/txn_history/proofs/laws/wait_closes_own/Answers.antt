use Rattle.txn_history.proofs.Theorems.{wait_closes_own}
use Rattle.txn_history.proofs.laws.wait_closes_own.Goals as goal

pub returns : goal.returns
returns c = wait_closes_own
