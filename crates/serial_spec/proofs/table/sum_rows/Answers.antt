use Rattle.std.proofs.Common.{◌<◌, length, rules, ◌≡◌, ℕ, ◌+◌, ◌++◌, ◌∷◌, [], List, ℤ, pos, ◌+ℤ◌, FitsSigned, w64, take, arith, ap, subst, sym, ◌∙◌}
use Rattle.std.specs.List.{AllByRecursion}
use Rattle.std.proofs.lemmas.Int.{ints}
use Rattle.std.proofs.lemmas.List.Sums.{fold_more}
use Rattle.txn_names.specs.Groups.{has}
use Rattle.txn_names.specs.Text.{IsKey}
use Rattle.serial_spec.specs.Rows.{Rows}
use Rattle.serial_spec.specs.Places.{part, rank, sum_rows}
use Rattle.serial_spec.proofs.Ranges.{Fine, fine_all, fine_more, fine_out, front_out, rest_out, sum_front, sum_out}
use Rattle.serial_spec.proofs.table.sum_rows.Goals as goal

pub loop-at-init : goal.loop-at-init
loop-at-init c =
    let rows : Rows = c.args.rows.now.items in
    let g : List ℕ = c.args.group.now in
    let at : c.place_of-at.result ≡ rank rows (g ++ 46 ∷ []) = c.place_of-at.ensures.place ∙ ap (rank rows) c.first_key.ensures in
    let within = c.place_of-at.ensures.within in (
      subst (λ n. pos 0 ≡ sum_rows (take n rows) g) (sym at) (sym (sum_out g (pos 0) (take (rank rows (g ++ 46 ∷ [])) rows) (front_out g rows))),
      subst (λ n. AllByRecursion (Fine g) (take n rows)) (sym at) (fine_out g (take (rank rows (g ++ 46 ∷ [])) rows) (front_out g rows)),
      omega (arith, ints),
      omega (arith, ints),
      omega (arith, at),
      within,
    )

pub loop-at-preserved : goal.loop-at-preserved
loop-at-preserved c =
    let rows : Rows = c.args.rows.now.items in
    let g : List ℕ = c.args.group.now in
    let n : ℕ = c.loop-at.at in
    let inside : n < length rows = omega (arith, c.loop-at-test.true, c.len.ensures.len) in
    let r : List ℕ × ℤ = c.at-in-loop-at.result.now in
    let fits : FitsSigned w64 c.part_of.result = search rules in
    let item : c.from-sum.result ≡ part g r = search (rules, c.from-sum.ensures, c.part_of.ensures.part, fits) in
    let i = c.loop-at.invariant in
    let more : sum_rows (take (n + 1) rows) g ≡ sum_rows (take n rows) g +ℤ part g r =
    fold_more (λ s x. s +ℤ part g x) (pos 0) rows n r inside ∙ ap (λ (x : List ℕ × ℤ). sum_rows (take n rows) g +ℤ part g x) (sym c.at-in-loop-at.ensures) in
    let whole = i.0 in
    let high = i.2 in
    let low = i.3 in (
      omega (arith, ints, whole, high, low, item, fits, more, c.from-sum.ensures),
      fine_more g n rows r inside i.1 (λ _. subst (λ (x : List ℕ × ℤ). IsKey x.0) c.at-in-loop-at.ensures c.part_of.ensures.key),
      omega (arith, ints, high, low, c.from-sum.ensures, fits),
      omega (arith, ints, high, low, c.from-sum.ensures, fits),
      omega (arith, i.4),
      omega (arith, inside),
    )

pub returns-else-has-clause-sum : goal.returns-else-has-clause-sum
returns-else-has-clause-sum c = c.loop-at.invariant.0 ∙ sym (sum_front c.args.group.now (pos 0) c.loop-at.at c.args.rows.now.items
    (rest_out c.args.group.now c.args.rows.now.items c.loop-at.at c.at.result.now c.requires c.loop-at.invariant.4 (omega (arith, c.loop-at-test.true, c.len.ensures.len))
    (ap (λ (r : List ℕ × ℤ). has c.args.group.now r.0) (sym c.at.ensures) ∙ sym c.has.ensures ∙ c.if-has.false)))

pub returns-else-has-clause-keys : goal.returns-else-has-clause-keys
returns-else-has-clause-keys c = fine_all c.args.group.now c.loop-at.at c.args.rows.now.items c.loop-at.invariant.1
    (rest_out c.args.group.now c.args.rows.now.items c.loop-at.at c.at.result.now c.requires c.loop-at.invariant.4 (omega (arith, c.loop-at-test.true, c.len.ensures.len))
    (ap (λ (r : List ℕ × ℤ). has c.args.group.now r.0) (sym c.at.ensures) ∙ sym c.has.ensures ∙ c.if-has.false))
