use Rattle.std.proofs.Common.{true, false, Some, refl, ap, subst}
use Rattle.report_tables.specs.Served.{IsServed}
use Rattle.report_tables.proofs.serving.serve_one.Goals as goal

pub returns-then-serve-clause-told : goal.returns-then-serve-clause-told
returns-then-serve-clause-told c a asks =
    (true, subst (IsServed a c.args.access.now.reply c.args.values.now.entries c.serve.new.values.entries) c.if-serve.true (c.serve.ensures.served a asks), refl)

pub returns-else-serve-clause-told : goal.returns-else-serve-clause-told
returns-else-serve-clause-told c a asks =
    (false, subst (IsServed a c.args.access.now.reply c.args.values.now.entries c.serve.new.values.entries) c.if-serve.false (c.serve.ensures.served a asks), ap Some c.or_least.ensures)
