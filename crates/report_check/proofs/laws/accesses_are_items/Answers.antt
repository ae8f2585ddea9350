use Rattle.report_check.proofs.Served.{accesses_are_items}
use Rattle.report_check.proofs.laws.accesses_are_items.Goals as goal

pub returns : goal.returns
returns c = accesses_are_items
