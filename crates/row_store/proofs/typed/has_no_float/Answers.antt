use Rattle.std.proofs.Common.{refl, arith}
use Rattle.std.specs.Float.{NotNan}
use Rattle.std.proofs.lemmas.List.Elements.{All-more}
use Rattle.sqlite_value.specs.declared.value.Value.TheVariants.{Null}
use Rattle.sqlite_value.specs.Order.{number}
use Rattle.row_store.proofs.typed.has_no_float.Goals as goal

pub loop-at-preserved : goal.loop-at-preserved
loop-at-preserved c = All-more (λ v. NotNan (number v)) c.args.row.now c.loop-at.at Null (omega arith) c.loop-at.invariant (rw c.get.ensures at (c.if-not-is_no_float.ensures refl))
