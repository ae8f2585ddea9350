use Rattle.std.proofs.Common.{sym, ap, ◌∙◌, subst}
use Rattle.std.specs.Option.{option_copied_mut}
use Rattle.report_tables.specs.inner.Tallied.{AreTallied}
use Rattle.report_tables.specs.Valued.{Values}
use Rattle.report_tables.proofs.Counting.{set_valueless}
use Rattle.report_tables.proofs.tallies.set_value.Goals as goal

pub returns-in_default-clause-value : goal.returns-in_default-clause-value
returns-in_default-clause-value c = set_valueless c.args.values.now.entries c.args.number c.args.value (sym c.get_index_mut.ensures.value ∙ ap option_copied_mut c.in_default.is)

pub returns-in_default-clause-tallied : goal.returns-in_default-clause-tallied
returns-in_default-clause-tallied c =
    subst (λ (es : Values). AreTallied es c.follow.new.groups.entries)
    (sym (set_valueless c.args.values.now.entries c.args.number c.args.value (sym c.get_index_mut.ensures.value ∙ ap option_copied_mut c.in_default.is))) c.follow.ensures.tallied
