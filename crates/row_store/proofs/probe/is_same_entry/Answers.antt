use Rattle.std.proofs.Common.{Less, Greater, is_eq, sym, ap, ◌∙◌}
use Rattle.sqlite_value.specs.Value.{owned}
use Rattle.row_store.proofs.Firsts.{entry_first_tells}
use Rattle.row_store.proofs.probe.is_same_entry.Goals as goal

pub returns-in-Some-Less : goal.returns-in-Some-Less
returns-in-Some-Less c =
    let told = c.in-Some-Less in
    sym (ap is_eq (entry_first_tells c.args.order c.args.row.now c.args.entry.now (owned c.first_in.result) c.first_in.ensures told.ensures.some Less (λ e. cc) (sym told.field-0-is ∙ told.ensures.told)))

pub returns-in-Some-Greater : goal.returns-in-Some-Greater
returns-in-Some-Greater c =
    let told = c.in-Some-Greater in
    sym (ap is_eq (entry_first_tells c.args.order c.args.row.now c.args.entry.now (owned c.first_in.result) c.first_in.ensures told.ensures.some Greater (λ e. cc) (sym told.field-0-is ∙ told.ensures.told)))
