use Rattle.std.proofs.Common.{ap, ◌∙◌}
use Rattle.serial_spec.specs.Serial.{Map}
use Rattle.durable_top.specs.declared.store.Row.{Row}
use Rattle.durable_top.specs.Numbers.{with_first}
use Rattle.durable_top.proofs.Tables.{with_more}
use Rattle.durable_top.proofs.numbers.numbers_from.Goals as goal

pub loop-row-preserved : goal.loop-row-preserved
loop-row-preserved c =
    let row = c.row-item.result in
    c.in_ok-put_first.ensures
    ∙ ap (λ (m : Map). with_first m row.key row.commit) c.loop-row.invariant
    ∙ with_more (λ (r : Row). (r.key, r.commit)) c.args.rows.now c.loop-row.row-index row c.loop-row-test.true c.row-item.is
