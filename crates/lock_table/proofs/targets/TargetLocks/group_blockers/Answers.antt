use Rattle.std.proofs.Common.{List, ℕ, ap, subst, sym, ◌∙◌}
use Rattle.std.proofs.lemmas.Bool.{not-true}
use Rattle.std.proofs.lemmas.Result.{IfOk-weaker}
use Rattle.serial_spec.specs.declared.operation.Kind.TheVariants.{Read}
use Rattle.serial_spec.specs.declared.target.Target.TheVariants.{Group}
use Rattle.lock_table.specs.Blocking.{blockers_in, is_blocked_in}
use Rattle.lock_table.specs.Targeted.{AreBlockers, Targeted}
use Rattle.lock_table.proofs.Found.{found_for_sum}
use Rattle.lock_table.proofs.Reaching.{may_sum}
use Rattle.lock_table.proofs.targets.TargetLocks.group_blockers.Goals as goal

pub returns-clause-found : goal.returns-clause-found
returns-clause-found c =
    let l : Targeted = record { keys = c.self.inside.keys; sums = c.self.inside.sums; writers = c.self.inside.writers } in
    let found = found_for_sum c.args.tree.now l c.self.invariant.0 c.self.invariant.1 c.args.txn c.args.group.now c.as_key.ensures.group.some in
    let same = ap (λ (k : List ℕ). blockers_in c.args.tree.now l.writers c.args.txn k Read) c.as_key.ensures.value in
    rw (sym c.self.view_is)
    (IfOk-weaker c.blockers.result _ _ (λ v e. subst (λ (xs : List ℕ). AreBlockers c.args.tree.now l c.args.txn (Group c.args.group.now) Read xs) (sym (e ∙ same)) found) c.blockers.ensures.found)

pub returns-clause-succeeds : goal.returns-clause-succeeds
returns-clause-succeeds c =
    let l : Targeted = record { keys = c.self.inside.keys; sums = c.self.inside.sums; writers = c.self.inside.writers } in
    let both = may_sum c.args.tree.now l c.self.invariant.0 c.self.invariant.1 c.args.txn c.args.group.now c.as_key.ensures.group.some in
    let same = ap (λ (k : List ℕ). is_blocked_in c.args.tree.now l.writers c.args.txn k Read) c.as_key.ensures.value in
    rw (sym c.self.view_is) (λ may. c.blockers.ensures.succeeds (same ∙ not-true _ (both.1 may)))
