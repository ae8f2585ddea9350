use Rattle.std.proofs.Common.{ap, not, sym, ◌∙◌, arith}
use Rattle.txn_names.proofs.Exports.{meet-le}
use Rattle.txn_tree.specs.Siblings.{is_child_at}
use Rattle.wait_graph.proofs.OwnBranches.{none_first, own_above, own_leaf}
use Rattle.wait_graph.proofs.branch.is_alone_in_branch.Goals as goal

pub returns-then-depth-shared-eq1 : goal.returns-then-depth-shared-eq1
returns-then-depth-shared-eq1 c e =
    let at = c.in-Some-Some in
    let one = c.if-depth-shared-eq1.true in
    own_leaf c.args.tree.now c.args.txn c.args.blocker at.name.now at.holder.now (sym at.ensures) (sym at.ensures')
    (omega (arith, one, c.if-depth-shared.true, c.meet_depth-shared.ensures, c.depth-depth.ensures.depth))
    (none_first (is_child_at c.args.tree.now c.args.blocker) c.first_child.result (c.is_none.ensures ∙ ap not e) c.first_child.ensures.first)
    c.first_child.ensures.branches

pub returns-else-depth-shared : goal.returns-else-depth-shared
returns-else-depth-shared c e =
    let at = c.in-Some-Some in
    own_above c.args.tree.now c.args.txn c.args.blocker at.name.now at.holder.now (sym at.ensures) (sym at.ensures')
    (omega (arith, (meet-le at.name.now at.holder.now).1, c.if-depth-shared.false, c.meet_depth-shared.ensures, c.depth-depth.ensures.depth))
