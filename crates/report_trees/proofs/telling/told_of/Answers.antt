use Rattle.std.proofs.Common.{◌≡◌, ◌<◌, ◌^◌, ◌∙◌, drop, length, refl, ap, sym, subst, arith}
use Rattle.report_marks.specs.declared.deeds.Mark.{Mark}
use Rattle.report_trees.specs.Telling.{IsTelling, waits_in}
use Rattle.report_trees.proofs.Earlier.{drop_all, told_all, told_one_more, told_yet}
use Rattle.report_trees.proofs.telling.told_of.Goals as goal

pub loop-at-init : goal.loop-at-init
loop-at-init c = (
  omega arith,
  told_yet c.args.count (length c.args.marks.now) (drop (length c.args.marks.now) c.args.marks.now) c.in_ok-telling.telling (drop_all c.args.marks.now) c.in_ok-telling.ensures.told c.in_ok-telling.ensures.waits
      c.in_ok-telling.ensures.next,
)

pub loop-at-preserved : goal.loop-at-preserved
loop-at-preserved c = (
  omega (arith, c.loop-at.invariant.0),
  told_one_more c.args.count c.loop-at.at c.args.marks.now _ c.loop-at.telling c.tell.new.telling c.loop-at-test.true c.loop-at.invariant.0 c.requires c.loop-at.invariant.1
      c.in_ok-tell.ensures,
)

pub returns-clause-told : goal.returns-clause-told
returns-clause-told c =
    let zero : c.loop-at.at ≡ 0 = omega (arith, c.loop-at-test.false) in
    told_all c.args.count c.args.marks.now c.loop-at.telling (subst (λ k. IsTelling c.args.count k (drop k c.args.marks.now) c.loop-at.telling) zero c.loop-at.invariant.1)
