use Rattle.report_check.proofs.Naming.{accesses_are_told}
use Rattle.report_check.proofs.laws.accesses_are_told.Goals as goal

pub returns : goal.returns
returns c = accesses_are_told
