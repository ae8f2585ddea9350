use Rattle.std.proofs.Common.{not, Less, Greater, is_lt, is_gt, sym, ap, ◌∙◌, arith}
use Rattle.sqlite_value.specs.Order.{column, value_cmp}
use Rattle.sqlite_value.specs.Value.{owned}
use Rattle.row_store.proofs.Firsts.{first_tells, first_ties}
use Rattle.row_store.proofs.probe.Probe.passes_by.Goals as goal

pub returns-in-Some-Less : goal.returns-in-Some-Less
returns-in-Some-Less c =
    let told = c.in-Some-Less in
    sym (first_tells c.args.self.now (owned c.args.first) c.args.row.now c.requires told.ensures.some Less (λ e. cc) (sym told.field-0-is ∙ told.ensures.told))

pub returns-in-Some-Greater : goal.returns-in-Some-Greater
returns-in-Some-Greater c =
    let told = c.in-Some-Greater in
    sym (first_tells c.args.self.now (owned c.args.first) c.args.row.now c.requires told.ensures.some Greater (λ e. cc) (sym told.field-0-is ∙ told.ensures.told))

pub returns-in-BelowKey : goal.returns-in-BelowKey
returns-in-BelowKey c =
    let told = c.in-Some-Equal in
    let arm = c.in-BelowKey in
    let first = rw arm.is at c.requires in
    rw arm.is (sym (ap is_lt (first_ties arm.field-0 c.args.row.now arm.key.now (owned c.args.first) first told.ensures.some (omega arith) (sym told.field-0-is ∙ told.ensures.told))))

pub returns-in-UpToKey : goal.returns-in-UpToKey
returns-in-UpToKey c =
    let told = c.in-Some-Equal in
    let arm = c.in-UpToKey in
    let first = rw arm.is at c.requires in
    rw arm.is (sym (ap (λ r. not (is_gt r)) (first_ties arm.field-0 c.args.row.now arm.key.now (owned c.args.first) first told.ensures.some (omega arith) (sym told.field-0-is ∙ told.ensures.told))))

pub returns-in-BelowRowid : goal.returns-in-BelowRowid
returns-in-BelowRowid c =
    let told = c.in-Some-Equal in
    let arm = c.in-BelowRowid in
    let first = rw arm.is at c.requires in
    rw arm.is (sym (ap is_lt (ap (value_cmp (column c.args.row.now 0)) (sym first) ∙ sym (sym told.field-0-is ∙ told.ensures.told))))
