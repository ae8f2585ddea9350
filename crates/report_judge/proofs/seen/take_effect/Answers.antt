use Rattle.std.proofs.Common.{◌∙◌, ap, refl}
use Rattle.std.specs.Map.{keys_of}
use Rattle.serial_spec.specs.History.{effect_of}
use Rattle.serial_spec.specs.declared.target.Asked.TheVariants.{At, Over}
use Rattle.report_tables.specs.Chained.{known_by}
use Rattle.report_judge.proofs.Following.{comes_idle, no_access}
use Rattle.report_judge.proofs.seen.take_effect.Goals as goal

pub returns-in_default-answer : goal.returns-in_default-answer
returns-in_default-answer c = record {
  effect = λ base h are line. comes_idle base (known_by (keys_of c.args.values.now.entries) (keys_of c.args.groups.now.entries)) h c.args.transactions.now _
      (ap (λ e. effect_of e c.args.answer.now) c.in-Access.is ∙ no_access _ (At c.in-Access.key c.in-Access.op) c.args.answer.now c.in_default-answer.not-Done) are;
  same = λ k. refl;
}

pub returns-in_default-answer-2 : goal.returns-in_default-answer-2
returns-in_default-answer-2 c = record {
  effect = λ base h are line. comes_idle base (known_by (keys_of c.args.values.now.entries) (keys_of c.args.groups.now.entries)) h c.args.transactions.now _
      (ap (λ e. effect_of e c.args.answer.now) c.in-Sum.is ∙ no_access _ (Over c.in-Sum.group) c.args.answer.now c.in_default-answer-2.not-Done) are;
  same = λ k. refl;
}
