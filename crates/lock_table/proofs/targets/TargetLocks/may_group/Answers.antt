use Rattle.std.proofs.Common.{◌≡◌, not, List, ℕ, true, sym, ap, subst, ◌∙◌}
use Rattle.serial_spec.specs.declared.operation.Kind.TheVariants.{Read}
use Rattle.serial_spec.specs.declared.target.Target.TheVariants.{Group}
use Rattle.lock_table.specs.Blocking.{is_blocked_in}
use Rattle.lock_table.specs.Targeted.{Targeted, MayAt}
use Rattle.lock_table.proofs.Reaching.{may_sum}
use Rattle.lock_table.proofs.targets.TargetLocks.may_group.Goals as goal

pub returns : goal.returns
returns c =
    let l : Targeted = record { keys = c.self.inside.keys; sums = c.self.inside.sums; writers = c.self.inside.writers } in
    let both = may_sum c.args.tree.now l c.self.invariant.0 c.self.invariant.1 c.args.txn c.args.group.now c.as_key.ensures.group.some in
    let tells : c.may.result ≡ not (is_blocked_in c.args.tree.now l.writers c.args.txn c.args.group.now Read) =
    c.may.ensures ∙ ap (λ (k : List ℕ). not (is_blocked_in c.args.tree.now l.writers c.args.txn k Read)) c.as_key.ensures.value in
    subst (λ (m : Targeted). (c.may.result ≡ true → MayAt c.args.tree.now m c.args.txn (Group c.args.group.now) Read) × (MayAt c.args.tree.now m c.args.txn (Group c.args.group.now) Read → c.may.result ≡ true))
    c.self.view_is (λ h. both.0 (sym tells ∙ h), λ h. tells ∙ both.1 h)
