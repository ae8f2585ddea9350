use Rattle.std.proofs.Common.{rules, sym, ap, ◌∙◌, to_z-of_z, SFits, w64}
use Rattle.sqlite_value.specs.declared.value.Value.TheVariants.{Int, Text}
use Rattle.sqlite_value.specs.Value.{owned}
use Rattle.sqlite_value.specs.Order.{column, value_cmp}
use Rattle.sqlite_value.proofs.OrderLemmas.{value_cmp-Int, value_cmp-Text}
use Rattle.row_store.proofs.probe.compare_first.Goals as goal

pub returns-in-Text-Text-clause-told : goal.returns-in-Text-Text-clause-told
returns-in-Text-Text-clause-told c =
    let a = c.in-Text-Text in
    c.compare_texts.ensures ∙ sym (value_cmp-Text a.ours.now a.theirs.now)
    ∙ ap (λ v. value_cmp v (Text a.theirs.now)) (sym (ap owned a.is-0) ∙ c.get.ensures)
    ∙ ap (value_cmp (column c.args.row.now 0)) (sym (ap owned a.is-1))

pub returns-in-Int-Int-clause-told : goal.returns-in-Int-Int-clause-told
returns-in-Int-Int-clause-told c =
    let a = c.in-Int-Int in
    let p : SFits w64 a.ours = search rules in
    let q : SFits w64 a.theirs = search rules in
    (simp to_z-of_z at c.cmp.ensures) ∙ sym (value_cmp-Int a.ours a.theirs)
    ∙ ap (λ v. value_cmp v (Int a.theirs)) (sym (ap owned a.is-0) ∙ c.get.ensures)
    ∙ ap (value_cmp (column c.args.row.now 0)) (sym (ap owned a.is-1))
