use Rattle.session_text.proofs.FirstFaults.{first_faults_told}
use Rattle.session_text.proofs.laws.first_faults_told.Goals as goal

pub returns : goal.returns
returns c = first_faults_told
