use Rattle.std.proofs.Common.{◌≡◌, ◌∙◌, ℕ, sym, ap, length, Some, List, Option, ◌++◌, ◌∷◌, [], ◌-◌, w64}
use Rattle.std.proofs.lemmas.Int.{to_z-of_z}
use Rattle.indexmap.specs.IndexMap.{insert_entry}
use Rattle.std.specs.Prelude.{slice_get}
use Rattle.std.specs.Map.{keys_of, lookup}
use Rattle.indexmap.proofs.CallerLemmas.{insert_entry-new}
use Rattle.txn_names.specs.Path.{label_eq}
use Rattle.serial_spec.specs.Rows.{Rows}
use Rattle.report_tables.specs.Valued.{Values}
use Rattle.report_judge.specs.Kept.{may_come, opened}
use Rattle.report_check.specs.Passing.{may_add_row}
use Rattle.report_judge.proofs.Rowing.{last_opened, length_opened, may_come_is, may_past, opened_more, past_new}
use Rattle.report_judge.proofs.seen.add_opening.Goals as goal

may_is : (rows : Rows) (es : Values) (n : ℕ) (last : Option (List ℕ)) (k : List ℕ) → es ≡ opened rows → n ≡ length es → last ≡ slice_get (keys_of es) (length es - 1)
    → may_come n last k ≡ may_add_row rows k
may_is rows es n last k same at is =
    may_come_is rows n last k (at ∙ ap (λ (z : Values). length z) same ∙ length_opened rows)
    (is ∙ ap (λ (z : Values). slice_get (keys_of z) (length z - 1)) same ∙ last_opened rows (length (opened rows)) (length_opened rows))

pub returns-then-not-may_come : goal.returns-then-not-may_come
returns-then-not-may_come c rows same rising =
    sym (may_is rows c.args.values.now.entries c.len.result c.last_named.result c.args.key.now same c.len.ensures.len c.last_named.ensures) ∙ sym c.may_come.ensures ∙ c.if-not-may_come.true

pub returns-in-Ok : goal.returns-in-Ok
returns-in-Ok c rows same rising =
    let k = c.args.key.now in
    let yes = sym (may_is rows c.args.values.now.entries c.len.result c.last_named.result k same c.len.ensures.len c.last_named.ensures) ∙ sym c.may_come.ensures ∙ c.if-not-may_come.false in
    let none = ap (λ (z : Values). lookup (label_eq k) z) same ∙ past_new rows k rising (may_past rows k yes) in (
      yes,
      c.in-Ok.ensures.entries ∙ ap (λ v. insert_entry label_eq c.args.values.now.entries k (Some v)) (to_z-of_z w64 c.args.value c.ranges.value)
          ∙ insert_entry-new label_eq c.args.values.now k (Some c.args.value) none
          ∙ ap (λ (z : Values). z ++ (k, Some c.args.value) ∷ []) same ∙ opened_more rows k c.args.value,
    )
