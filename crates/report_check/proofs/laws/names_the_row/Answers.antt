use Rattle.report_check.proofs.Naming.{names_the_row}
use Rattle.report_check.proofs.laws.names_the_row.Goals as goal

pub returns : goal.returns
returns c = names_the_row
