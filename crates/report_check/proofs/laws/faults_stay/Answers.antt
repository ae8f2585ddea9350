use Rattle.report_check.proofs.Faults.{faults_stay}
use Rattle.report_check.proofs.laws.faults_stay.Goals as goal

pub returns : goal.returns
returns c = faults_stay
