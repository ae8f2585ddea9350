use Rattle.std.proofs.Common.{sym, ◌∙◌}
use Rattle.report_tables.proofs.Leading.{lead_both, lead_none}
use Rattle.report_tables.proofs.chains.lead.Goals as goal

pub returns-then-is_some : goal.returns-then-is_some
returns-then-is_some c = c.lead_at.ensures ∙ lead_both c.args.accesses.now c.args.from c.args.to c.in-Some.place c.in-Some.is (sym c.is_some.ensures ∙ c.if-is_some.true)

pub returns-else-is_some : goal.returns-else-is_some
returns-else-is_some c = lead_none c.args.accesses.now c.args.from c.args.to (sym c.is_some.ensures ∙ c.if-is_some.false)
