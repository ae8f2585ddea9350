use Rattle.std.proofs.Common.{ap, subst, sym, ◌∙◌}
use Rattle.serial_spec.specs.Rows.{value_in}
use Rattle.serial_spec.specs.Serial.{Map}
use Rattle.serial_spec.proofs.Exports.{rows_by_map}
use Rattle.durable_top.specs.Store.{plain}
use Rattle.durable_top.specs.Joined.{joined, HaveSameKeys}
use Rattle.durable_top.specs.Numbered.{values_of, entries_in}
use Rattle.durable_top.proofs.Numbering.{joined_rows, same_keys, values_in_rows}
use Rattle.durable_top.proofs.row_table.RowTable.of_rows.Goals as goal

pub returns : goal.returns
returns c =
    let rows = c.args.rows.now in
    let values = rows_by_map c.in_ok-values.values.rows (plain rows) c.has_rising_rows.ensures c.requires.rising (λ k. ap (λ (m : Map). m k) c.in_ok-values.ensures) in
    (
    ap (λ vs. joined vs (value_in c.in_ok-numbers.numbers.rows)) values
    ∙ ap (λ m. joined (plain rows) m) c.in_ok-numbers.ensures
    ∙ joined_rows rows c.requires.rising
    )

pub invariant_of-result : goal.invariant_of-result
invariant_of-result c =
    let rows = c.args.rows.now in
    subst (λ (m : Map). HaveSameKeys m (value_in c.in_ok-numbers.numbers.rows)) (values_in_rows rows ∙ sym c.in_ok-values.ensures)
    (subst (λ (m : Map). HaveSameKeys (values_of (entries_in rows)) m) (sym c.in_ok-numbers.ensures) (same_keys (entries_in rows)))
