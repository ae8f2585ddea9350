use Rattle.std.proofs.Common.{sym, ◌∙◌, refl}
use Rattle.durable_top.proofs.Greatest.{value_there, none_pushed}
use Rattle.durable_top.proofs.numbers.has_value.Goals as goal

pub returns-then-is_some : goal.returns-then-is_some
returns-then-is_some c = (
  λ _. value_there c.args.changes.now c.loop-change.change-index c.change-item.result c.loop-change-test.true c.change-item.is
      (sym c.is_some.ensures ∙ c.if-is_some.true),
  λ _. refl,
)

pub loop-change-preserved : goal.loop-change-preserved
loop-change-preserved c = none_pushed c.args.changes.now c.loop-change.change-index c.change-item.result c.loop-change-test.true c.change-item.is
    (sym c.is_some.ensures ∙ c.if-is_some.false) c.loop-change.invariant
