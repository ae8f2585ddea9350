use Rattle.std.proofs.Common.{sym, ◌∙◌}
use Rattle.wait_graph.proofs.Branches.{branch_at_top, branch_below, first_parting, next_parting, none_above, none_from_nobody, none_of_nobody}
use Rattle.wait_graph.proofs.branch.branch_of.Goals as goal

pub returns-in_err-name_of-clause-none : goal.returns-in_err-name_of-clause-none
returns-in_err-name_of-clause-none c = rw c.from_residual.ensures (none_from_nobody c.args.tree.now c.args.txn c.args.blocker c.in_err-name_of.ensures)

pub returns-in_err-name_of-2-clause-none : goal.returns-in_err-name_of-2-clause-none
returns-in_err-name_of-2-clause-none c = rw c.from_residual-in_err-name_of-2.ensures (none_of_nobody c.args.tree.now c.args.txn c.args.blocker c.in_err-name_of-2.ensures)

pub returns-then-is_under-clause-none : goal.returns-then-is_under-clause-none
returns-then-is_under-clause-none c = none_above c.args.tree.now c.args.txn c.args.blocker (sym c.is_under.ensures.under ∙ c.if-is_under.true)

pub loop-parent-init : goal.loop-parent-init
loop-parent-init c = first_parting c.args.tree.now c.args.txn c.args.blocker _ (sym c.in_ok-name_of-2.ensures) (sym c.is_under.ensures.under ∙ c.if-is_under.false)

pub loop-parent-preserved : goal.loop-parent-preserved
loop-parent-preserved c =
    next_parting c.args.tree.now c.args.txn c.args.blocker c.loop-parent.top c.in-Some.parent c.loop-parent.invariant c.in-Some.ensures.named (sym c.is_under-in-Some.ensures.under ∙ c.if-is_under-2.false)

pub returns-then-is_under-2-clause-some : goal.returns-then-is_under-2-clause-some
returns-then-is_under-2-clause-some c =
    branch_below c.args.tree.now c.args.txn c.args.blocker c.loop-parent.top c.loop-parent.invariant _ (sym c.in_ok-name_of.ensures) c.in-Some.parent c.in-Some.ensures.named (sym c.is_under-in-Some.ensures.under ∙ c.if-is_under-2.true)

pub returns-clause-some : goal.returns-clause-some
returns-clause-some c =
    branch_at_top c.args.tree.now c.args.txn c.args.blocker c.loop-parent.top c.loop-parent.invariant _ (sym c.in_ok-name_of.ensures) (sym c.in_default.ensures.some)
