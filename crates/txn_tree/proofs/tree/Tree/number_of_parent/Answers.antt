use Rattle.std.proofs.Common.{◌∙◌, sym, ap}
use Rattle.txn_tree.specs.Causes.{cause_at_parent}
use Rattle.txn_tree.proofs.Inactive.{active_here, ended_parent_at, no_cause_at_parent}
use Rattle.txn_tree.proofs.Links.{parent_some}
use Rattle.txn_tree.proofs.Told.{named_at}
use Rattle.txn_tree.proofs.tree.Tree.number_of_parent.Goals as goal

pub returns-then-is_active_at-clause-refused : goal.returns-then-is_active_at-clause-refused
returns-then-is_active_at-clause-refused c =
    let tree = c.args.self.now in
    let p = c.in-Some.parent in
    let n = c.in-Some-no_of.txn in
    let at = named_at tree p n c.in-Some-no_of.ensures.number in
    no_cause_at_parent tree p (sym (active_here tree p n at) ∙ sym c.is_active_at.ensures ∙ c.if-is_active_at.true)
    ∙ ap (cause_at_parent tree) c.in-Some.ensures.some

pub returns-then-is_active_at-clause-number : goal.returns-then-is_active_at-clause-number
returns-then-is_active_at-clause-number c =
    let tree = c.args.self.now in
    let p = c.in-Some.parent in
    let n = c.in-Some-no_of.txn in
    parent_some tree c.args.name.now p n (named_at tree p n c.in-Some-no_of.ensures.number) c.in-Some.ensures.some

pub returns-else-is_active_at-clause-refused : goal.returns-else-is_active_at-clause-refused
returns-else-is_active_at-clause-refused c =
    let tree = c.args.self.now in
    let p = c.in-Some.parent in
    let n = c.in-Some-no_of.txn in
    let at = named_at tree p n c.in-Some-no_of.ensures.number in
    rw c.refusal_of_ended.ensures
    (ended_parent_at tree p n at c.in-Some-no_of.ensures.begun (sym c.is_active_at.ensures ∙ c.if-is_active_at.false)
    ∙ ap (cause_at_parent tree) c.in-Some.ensures.some)
