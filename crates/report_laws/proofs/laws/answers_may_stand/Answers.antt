use Rattle.report_laws.proofs.Accepted.{answers_may_stand}
use Rattle.report_laws.proofs.laws.answers_may_stand.Goals as goal

pub returns : goal.returns
returns c = answers_may_stand
