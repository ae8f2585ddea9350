use Rattle.std.proofs.Common.{◌≡◌, inr, rules, ◌∙◌}
use Rattle.std.specs.Prelude.{OnOk}
use Rattle.serial_spec.specs.Changes.{overlay}
use Rattle.serial_spec.specs.Rows.{value_in}
use Rattle.durable_top.specs.Store.{plain}
use Rattle.durable_top.proofs.Settled.{settled_so}
use Rattle.durable_top.proofs.Numbering.{values_in_rows, values_left}
use Rattle.durable_top.proofs.memory.MemStoreTopStore.commit.Goals as goal

pub returns-then-is_err-clause-values : goal.returns-then-is_err-clause-values
returns-then-is_err-clause-values c = values_in_rows c.match-planned.self-inside.table

pub returns-then-is_err-clause-leaves_values : goal.returns-then-is_err-clause-leaves_values
returns-then-is_err-clause-leaves_values c = λ left is. values_left c.match-planned.self-inside.table left is

pub returns-else-is_err-clause-values : goal.returns-else-is_err-clause-values
returns-else-is_err-clause-values c = values_in_rows c.match-planned.self-inside.table

pub returns-else-is_err-clause-leaves_values : goal.returns-else-is_err-clause-leaves_values
returns-else-is_err-clause-leaves_values c = λ left is. values_left c.match-planned.self-inside.table left is

pub returns-else-is_err-clause-crash : goal.returns-else-is_err-clause-crash
returns-else-is_err-clause-crash c = λ clean left is. inr (is ∙ search rules)

pub returns-else-is_err-clause-settled : goal.returns-else-is_err-clause-settled
returns-else-is_err-clause-settled c = λ clean.
    let made : OnOk c.match-planned.answer (value_in (plain c.match-planned.self-inside.table) ≡ overlay c.args.changes.now (value_in (plain c.args.self.now.rows))) = search rules in
    settled_so _ _ c.match-planned.answer made
