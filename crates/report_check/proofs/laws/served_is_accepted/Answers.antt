use Rattle.report_check.proofs.Faults.{served_is_accepted}
use Rattle.report_check.proofs.laws.served_is_accepted.Goals as goal

pub returns : goal.returns
returns c = served_is_accepted
