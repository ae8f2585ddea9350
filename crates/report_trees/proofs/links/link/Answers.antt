use Rattle.std.proofs.Common.{◌∙◌, ap, sym, cond, Some}
use Rattle.std.specs.Prelude.{nat_eq}
use Rattle.indexmap.specs.IndexMap.{get}
use Rattle.report_trees.proofs.Earlier.{on_done}
use Rattle.report_trees.proofs.Chains.{link_step}
use Rattle.report_trees.proofs.links.link.Goals as goal

pub returns : goal.returns
returns c =
    on_done c.set_first.result c.set_first.ensures
    (λ first places at is.
    link_step places c.args.number c.args.place c.args.links.now _ at is first
    (λ i. c.in_ok-set_next.ensures i ∙ ap (λ o. cond (nat_eq c.args.number i) (Some o) (get nat_eq c.args.links.now.next i)) c.first_of-sibling.ensures.first))
