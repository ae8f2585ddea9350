use Rattle.std.proofs.Common.{sym, subst}
use Rattle.report_tables.specs.inner.Compared.{Advances}
use Rattle.report_tables.proofs.Matching.{advances}
use Rattle.report_tables.proofs.comparing.next_place.Goals as goal

pub returns-in-Some : goal.returns-in-Some
returns-in-Some c n =
    subst (Advances n c.args.table.now c.args.values.now.entries c.args.place c.args.number) (sym c.next_at.ensures)
    (advances n c.args.table.now c.args.values.now.entries c.args.place c.args.number c.in-Some.key.now c.in-Some.value.now (sym c.in-Some.ensures.entry) c.requires.at)
