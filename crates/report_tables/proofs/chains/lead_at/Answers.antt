use Rattle.report_tables.specs.Chained.{leading_to}
use Rattle.report_tables.proofs.Leading.{lead_within, changed_past}
use Rattle.report_tables.proofs.chains.lead_at.Goals as goal

pub returns-then-place-accesses : goal.returns-then-place-accesses
returns-then-place-accesses c = lead_within c.args.accesses.now c.args.place c.args.to _ c.if-place-accesses.true

pub returns-else-place-accesses : goal.returns-else-place-accesses
returns-else-place-accesses c = changed_past (leading_to c.args.to) c.args.accesses.now c.args.place c.if-place-accesses.false
