use Rattle.report_check.proofs.Agreeing.{verdicts_agree}
use Rattle.report_check.proofs.laws.verdicts_agree.Goals as goal

pub returns : goal.returns
returns c = verdicts_agree
