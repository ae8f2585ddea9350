use Rattle.std.proofs.Common.{◌≡◌, ◌++◌, ◌∷◌, [], None, sym, ap, ◌∙◌}
use Rattle.std.specs.Prelude.{is_some, slice_get}
use Rattle.std.specs.Map.{keys_of, lookup}
use Rattle.indexmap.proofs.CallerLemmas.{insert_entry-new}
use Rattle.txn_names.specs.Path.{label_eq}
use Rattle.report_tables.specs.Valued.{value_at}
use Rattle.report_tables.proofs.Numbered.{at_position, keys_pushed, last_key, nothing, valueless}
use Rattle.report_tables.proofs.values.number_of.Goals as goal

pub returns-in-Some-clause-key : goal.returns-in-Some-clause-key
returns-in-Some-clause-key c = at_position _ c.args.key.now c.in-Some.number (sym c.get_index_of.ensures.index ∙ c.in-Some.is)

none : (c : goal.In-Ok) → lookup (label_eq c.args.key.now) c.args.values.now.entries ≡ None
none c = nothing _ (sym c.get_index_of.ensures.found ∙ ap is_some c.in_default.is)

pushed : (c : goal.In-Ok) → c.insert.new.self.entries ≡ c.args.values.now.entries ++ (c.args.key.now, None) ∷ []
pushed c = c.in-Ok.ensures.entries ∙ insert_entry-new label_eq c.args.values.now c.args.key.now None (none c)

pub returns-in-Ok-clause-key : goal.returns-in-Ok-clause-key
returns-in-Ok-clause-key c =
    ap (λ es. slice_get (keys_of es) c.len-number.result) (pushed c) ∙ last_key c.args.values.now.entries c.args.key.now None c.len-number.result c.len-number.ensures.len

pub returns-in-Ok-clause-grown : goal.returns-in-Ok-clause-grown
returns-in-Ok-clause-grown c = (c.args.key.now ∷ [], ap keys_of (pushed c) ∙ keys_pushed c.args.values.now.entries c.args.key.now None)

pub returns-in-Ok-clause-same : goal.returns-in-Ok-clause-same
returns-in-Ok-clause-same c k = ap (λ es. value_at es k) (pushed c) ∙ valueless c.args.values.now.entries c.args.key.now k
