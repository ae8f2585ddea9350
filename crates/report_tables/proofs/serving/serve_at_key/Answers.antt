use Rattle.std.proofs.Common.{◌≡◌, ℤ, Option, Some, sym, ap, ◌∙◌, cond}
use Rattle.std.specs.Prelude.{slice_get}
use Rattle.std.specs.Map.{keys_of, values_of}
use Rattle.serial_spec.specs.declared.operation.Reply.{Reply}
use Rattle.serial_spec.specs.Operations.{reply_of, value_after}
use Rattle.serial_spec.specs.Flat.{same_reply}
use Rattle.txn_names.specs.Path.{label_eq}
use Rattle.report_tables.specs.Valued.{Values, value_at}
use Rattle.report_tables.proofs.Counting.{key_past, value_there}
use Rattle.report_tables.proofs.Speaking.{keys_set}
use Rattle.report_tables.proofs.Running.{value_here, value_put}
use Rattle.report_tables.proofs.serving.serve_at_key.Goals as goal

pub returns-in_default-clause-served : goal.returns-in_default-clause-served
returns-in_default-clause-served c k at = absurd (key_past c.args.values.now.entries c.args.number k (sym c.in_default.ensures.entry) at)

pub returns-clause-served : goal.returns-clause-served
returns-clause-served c k at =
    let es : Values = c.args.values.now.entries in
    let n = c.args.number in
    let o = c.args.op.now in
    let r = c.args.reply.now in
    let old = c.in-Some.value.now in
    let new = c.act-after.result.0 in
    let distinct = c.set_value.ensures.distinct in
    let there : slice_get (values_of es) n ≡ Some old = value_there es n _ old (sym c.in-Some.ensures.entry) in
    let here : value_at es k ≡ old = value_here es n k old distinct at there in
    let after : new ≡ value_after (value_at es k) o = ap (λ (x : Option ℤ × Reply). x.0) c.act-after.ensures ∙ ap (λ v. value_after v o) (sym here) in
    record {
      keys = ap (λ (xs : Values). keys_of xs) c.set_value.ensures.value ∙ keys_set es n new;
      values = ap (λ (xs : Values). value_at xs) c.set_value.ensures.value
          ∙ (λ i q. (value_put es n k q new distinct at ∙ ap (λ v. cond (label_eq k q) v (value_at es q)) after) i);
      reply = c.is_same_reply.ensures ∙ ap (same_reply r) (ap (λ (x : Option ℤ × Reply). x.1) c.act-after.ensures ∙ ap (λ v. reply_of v o) (sym here));
    }
