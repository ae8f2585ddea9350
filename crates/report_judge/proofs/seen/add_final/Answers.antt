use Rattle.std.proofs.Common.{◌∙◌, sym, ap, w64, ◌++◌, ◌∷◌, [], arith}
use Rattle.std.proofs.lemmas.Int.{to_z-of_z}
use Rattle.serial_spec.specs.Rows.{Rows}
use Rattle.report_judge.proofs.Rowing.{last_key, may_come_is}
use Rattle.report_judge.proofs.seen.add_final.Goals as goal

pub returns-then-not-may_come : goal.returns-then-not-may_come
returns-then-not-may_come c =
    sym (may_come_is c.args.table.now.items c.len.result c.last_of.result c.args.key.now (omega (arith, c.len.ensures, c.args.table.now.ok.0)) (c.last_of.ensures ∙ ap (λ (z : Rows). last_key z) c.deref.ensures.value))
    ∙ sym c.may_come.ensures ∙ c.if-not-may_come.true

pub returns : goal.returns
returns c = (
  sym (may_come_is c.args.table.now.items c.len.result c.last_of.result c.args.key.now (omega (arith, c.len.ensures, c.args.table.now.ok.0)) (c.last_of.ensures ∙ ap (λ (z : Rows). last_key z) c.deref.ensures.value))
      ∙ sym c.may_come.ensures ∙ c.if-not-may_come.false,
  c.in_ok-push.ensures.items ∙ ap (λ v. c.args.table.now.items ++ (c.args.key.now, v) ∷ []) (to_z-of_z w64 c.args.value c.ranges.value),
)
