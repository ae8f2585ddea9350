use Rattle.report_laws.proofs.Accepted.{every_report_is_accepted}
use Rattle.report_laws.proofs.laws.every_report_is_accepted.Goals as goal

pub returns : goal.returns
returns c = every_report_is_accepted
