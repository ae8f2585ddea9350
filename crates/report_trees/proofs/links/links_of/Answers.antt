use Rattle.std.proofs.Common.{◌≡◌, length, arith, subst}
use Rattle.report_trees.specs.inner.Linked.{IsLinkedFrom}
use Rattle.report_trees.proofs.Chains.{none_linked, one_more}
use Rattle.report_trees.proofs.links.links_of.Goals as goal

pub loop-number-init : goal.loop-number-init
loop-number-init c = (omega arith, none_linked c.args.places.now (length c.args.places.now) _ (omega arith) c.no_links-links.ensures.first)

pub loop-number-preserved : goal.loop-number-preserved
loop-number-preserved c = (
  omega (arith, c.loop-number.invariant.0),
  one_more c.args.places.now c.loop-number.number c.loop-number.links c.link.new.links c.loop-number-test.true c.loop-number.invariant.0 c.loop-number.invariant.1 c.in_ok-link.ensures,
)

pub returns : goal.returns
returns c =
    let zero : c.loop-number.number ≡ 0 = omega (arith, c.loop-number-test.false) in
    subst (λ k. IsLinkedFrom c.args.places.now k c.loop-number.links) zero c.loop-number.invariant.1
