use Rattle.std.proofs.Common.{◌∙◌, sym}
use Rattle.txn_tree.proofs.Inactive.{active_here, ended_done_at, no_cause_at_abort}
use Rattle.txn_tree.proofs.Told.{named_at}
use Rattle.txn_tree.proofs.tree.Tree.number_to_end.Goals as goal

pub returns-then-is_active_at-clause-refused : goal.returns-then-is_active_at-clause-refused
returns-then-is_active_at-clause-refused c =
    let tree = c.args.self.now in
    let t = c.args.name.now in
    let n = c.in-Some.txn in
    let at = named_at tree t n c.in-Some.ensures.number in
    no_cause_at_abort tree t (sym (active_here tree t n at) ∙ sym c.is_active_at.ensures ∙ c.if-is_active_at.true)

pub returns-then-is_active_at-clause-named : goal.returns-then-is_active_at-clause-named
returns-then-is_active_at-clause-named c = named_at c.args.self.now c.args.name.now c.in-Some.txn c.in-Some.ensures.number

pub returns-else-is_active_at-clause-refused : goal.returns-else-is_active_at-clause-refused
returns-else-is_active_at-clause-refused c =
    let tree = c.args.self.now in
    let t = c.args.name.now in
    let n = c.in-Some.txn in
    let at = named_at tree t n c.in-Some.ensures.number in
    rw c.refusal_of_ended.ensures
    (ended_done_at tree t n at c.in-Some.ensures.begun (sym c.is_active_at.ensures ∙ c.if-is_active_at.false))
