use Rattle.std.proofs.Common.{◌≡◌, ◌++◌, ◌∷◌, [], None, pos, sym, ap, ◌∙◌}
use Rattle.std.specs.Prelude.{is_some, slice_get}
use Rattle.std.specs.Map.{keys_of, lookup}
use Rattle.indexmap.proofs.CallerLemmas.{insert_entry-new}
use Rattle.txn_names.specs.Path.{label_eq}
use Rattle.report_tables.proofs.Numbered.{at_position, keys_pushed, last_key, nothing}
use Rattle.report_tables.proofs.values.group_number.Goals as goal

pub returns-in-Some-clause-group : goal.returns-in-Some-clause-group
returns-in-Some-clause-group c = at_position _ c.args.group.now c.in-Some.number (sym c.get_index_of.ensures.index ∙ c.in-Some.is)

none : (c : goal.In-Ok) → lookup (label_eq c.args.group.now) c.args.groups.now.entries ≡ None
none c = nothing _ (sym c.get_index_of.ensures.found ∙ ap is_some c.in_default.is)

pushed : (c : goal.In-Ok) → c.insert.new.self.entries ≡ c.args.groups.now.entries ++ (c.args.group.now, pos 0) ∷ []
pushed c = c.in-Ok.ensures.entries ∙ insert_entry-new label_eq c.args.groups.now c.args.group.now (pos 0) (none c)

pub returns-in-Ok-clause-group : goal.returns-in-Ok-clause-group
returns-in-Ok-clause-group c =
    ap (λ es. slice_get (keys_of es) c.len-number.result) (pushed c) ∙ last_key c.args.groups.now.entries c.args.group.now (pos 0) c.len-number.result c.len-number.ensures.len

pub returns-in-Ok-clause-grown : goal.returns-in-Ok-clause-grown
returns-in-Ok-clause-grown c = (c.args.group.now ∷ [], ap keys_of (pushed c) ∙ keys_pushed c.args.groups.now.entries c.args.group.now (pos 0))
