use Rattle.std.proofs.Common.{◌≡◌, FitsSigned, Some, true, is_some, rules, sym, ap, ◌∙◌}
use Rattle.std.specs.Int.{w128}
use Rattle.std.specs.Prelude.{slice_get}
use Rattle.std.specs.Map.{keys_of, values_of}
use Rattle.std.specs.Option.{option_copied_mut}
use Rattle.indexmap.specs.IndexMap.{set_value_at}
use Rattle.txn_names.specs.Path.{label_eq}
use Rattle.txn_names.proofs.Exports.{label_eq_self}
use Rattle.report_tables.specs.inner.Tallied.{Sums}
use Rattle.report_tables.proofs.Numbered.{at_position, nothing}
use Rattle.report_tables.proofs.Tallying.{added, fits_added, raised_at, raised_nowhere, room_at}
use Rattle.report_tables.proofs.tallies.raise.Goals as goal

pub returns-in_default : goal.returns-in_default
returns-in_default c = raised_nowhere c.args.group.now c.args.difference c.args.groups.now.entries (nothing _ (sym c.get_index_of.ensures.found ∙ ap is_some c.in_default.is))

pub overflow_add-sum : goal.overflow_add-sum
overflow_add-sum c =
    let fits : FitsSigned w128 c.in-Some-get_index_mut.sum.now = search rules in
    fits_added c.in-Some-get_index_mut.sum.now c.args.difference fits c.ranges.difference
    (room_at (λ g. label_eq c.args.group.now g ≡ true) c.args.groups.now.entries c.in-Some.number c.args.group.now c.in-Some-get_index_mut.sum.now c.args.difference
    c.requires (at_position _ c.args.group.now c.in-Some.number (sym c.get_index_of.ensures.index ∙ c.in-Some.is)) (sym c.get_index_mut.ensures.value ∙ ap option_copied_mut c.in-Some-get_index_mut.is)
    (label_eq_self c.args.group.now))

pub returns-in-Some-get_index_mut : goal.returns-in-Some-get_index_mut
returns-in-Some-get_index_mut c =
    let ss : Sums = c.args.groups.now.entries in
    let n = c.in-Some.number in
    let g = c.args.group.now in
    let s = c.in-Some-get_index_mut.sum.now in
    let d = c.args.difference in
    let fits : FitsSigned w128 c.in-Some-get_index_mut.sum.now = search rules in
    let at : slice_get (keys_of ss) n ≡ Some g = at_position _ g n (sym c.get_index_of.ensures.index ∙ c.in-Some.is) in
    let there : slice_get (values_of ss) n ≡ Some s = sym c.get_index_mut.ensures.value ∙ ap option_copied_mut c.in-Some-get_index_mut.is in
    let small = room_at (λ f. label_eq g f ≡ true) ss n g s d c.requires at there (label_eq_self g) in
    ap (set_value_at ss n) (added s d fits c.ranges.difference small) ∙ raised_at ss n g s d c.get_index_of.ensures.unique at there
