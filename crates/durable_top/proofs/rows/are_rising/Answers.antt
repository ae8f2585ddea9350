use Rattle.std.proofs.Common.{◌≡◌, ℕ, List, ◌-◌, suc, sym, ap, ◌∙◌, arith, get_or}
use Rattle.std.proofs.lemmas.Bool.{false≢true}
use Rattle.durable_top.specs.declared.store.Row.{Row}
use Rattle.durable_top.proofs.Ordered.{rising_before, rising_at, rising_end, less_from_ge, not_less_from_ge}
use Rattle.durable_top.proofs.rows.are_rising.Goals as goal

pub loop-left-init : goal.loop-left-init
loop-left-init c = (omega arith, rising_end c.args.rows.now)

pub loop-left-preserved : goal.loop-left-preserved
loop-left-preserved c =
    let a : Row = c.index-rows-left.result in
    let b : Row = c.index-rows-left-in-loop-left.result in
    let less = less_from_ge _ (rw (← c.index-rows-left.is, ← c.index-rows-left-in-loop-left.is) at (sym c.ge.ensures ∙ c.if-ge.false)) in
    (omega arith, rising_before c.args.rows.now (c.loop-left.left - 1 - 1) (c.loop-left.left - 1) a b (omega arith) (omega arith) c.index-rows-left.is c.index-rows-left-in-loop-left.is less c.loop-left.invariant.1)

pub returns-then-ge : goal.returns-then-ge
returns-then-ge c =
    let rows : List Row = c.args.rows.now in
    let a : Row = c.index-rows-left.result in
    let b : Row = c.index-rows-left-in-loop-left.result in
    let i : ℕ = c.loop-left.left - 1 - 1 in
    let next : c.loop-left.left - 1 ≡ suc i = omega arith in
    let not_less = not_less_from_ge _ (rw (← c.index-rows-left.is, ← c.index-rows-left-in-loop-left.is) at (sym c.ge.ensures ∙ c.if-ge.true)) in (
      λ f. absurd (false≢true f),
      λ rising. absurd (not_less (rising_at rows i a b (omega arith) c.index-rows-left.is (c.index-rows-left-in-loop-left.is ∙ ap (λ n. get_or rows n b) next) rising)),
    )
