use Rattle.std.proofs.Common.{◌≡◌, ℕ, ℤ, pos, true, false, ◌≤ℤ◌, ◌-◌, ◌+◌, ◌∷◌, List, SFits, w64, length, drop, get_or, ◌<◌, sym, ap, subst, ◌∙◌, arith, rules}
use Rattle.std.proofs.lemmas.Bool.{false≢true}
use Rattle.std.proofs.lemmas.Int.{ints, to_z-of_z}
use Rattle.std.proofs.lemmas.List.{drop_all, drop_more}
use Rattle.std.specs.Int.Signed.{lt_z}
use Rattle.durable_top.specs.declared.store.Row.{Row}
use Rattle.durable_top.specs.Numbered.{AreNumbered}
use Rattle.durable_top.proofs.Greatest.{all_has, has_at}
use Rattle.durable_top.proofs.rows.are_numbered.Goals as goal

from_0 : (n : ℤ) → lt_z n (pos 0) ≡ false → pos 0 ≤ℤ n
from_0 n least = omega (arith, ints)

not_from_0 : (n : ℤ) → lt_z n (pos 0) ≡ true → pos 0 ≤ℤ n → ⊥
not_from_0 n below least = omega (arith, ints)

one_more : (rows : List Row) (left i : ℕ) (row : Row) → left ≡ i + 1 → i < length rows → row ≡ get_or rows i row → pos 0 ≤ℤ row.commit → AreNumbered (drop left rows)
    → AreNumbered (drop i rows)
one_more rows left i row next within is least behind =
    subst AreNumbered (sym (drop_more rows i row within ∙ ap (λ r. r ∷ drop (i + 1) rows) (sym is))) (least, subst (λ n. AreNumbered (drop n rows)) next behind)

pub loop-left-init : goal.loop-left-init
loop-left-init c = (omega arith, subst AreNumbered (sym (drop_all (length c.args.rows.now) c.args.rows.now (omega arith))) tt)

pub loop-left-preserved : goal.loop-left-preserved
loop-left-preserved c =
    let fits : SFits w64 c.index-rows-left.result.commit = search rules in
    let not_below = c.if-row-lt0.false in
    let least = from_0 c.index-rows-left.result.commit (simp to_z-of_z at not_below) in
    (omega arith, one_more c.args.rows.now c.loop-left.left (c.loop-left.left - 1) c.index-rows-left.result (omega arith) (omega arith) c.index-rows-left.is least c.loop-left.invariant.1)

pub returns-then-row-lt0 : goal.returns-then-row-lt0
returns-then-row-lt0 c =
    let fits : SFits w64 c.index-rows-left.result.commit = search rules in
    let below = c.if-row-lt0.true in
    let row : Row = c.index-rows-left.result in (
      λ f. absurd (false≢true f),
      λ all. absurd (not_from_0 row.commit (simp to_z-of_z at below) (all_has (λ (r : Row). pos 0 ≤ℤ r.commit) c.args.rows.now row all (has_at c.args.rows.now (c.loop-left.left - 1) row (omega arith) c.index-rows-left.is))),
    )
