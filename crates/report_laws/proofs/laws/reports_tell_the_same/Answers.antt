use Rattle.report_laws.proofs.Accepted.{reports_tell_the_same}
use Rattle.report_laws.proofs.laws.reports_tell_the_same.Goals as goal

pub returns : goal.returns
returns c = reports_tell_the_same
