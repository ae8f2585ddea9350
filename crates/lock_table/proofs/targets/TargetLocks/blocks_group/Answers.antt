use Rattle.std.proofs.Common.{◌≡◌, List, ℕ, ap, sym, ◌∙◌}
use Rattle.serial_spec.specs.declared.operation.Kind.TheVariants.{Read}
use Rattle.lock_table.specs.Blocking.{is_blocker_in}
use Rattle.lock_table.specs.Targeted.{Targeted}
use Rattle.lock_table.proofs.Reaching.{blocks_sum}
use Rattle.lock_table.proofs.targets.TargetLocks.blocks_group.Goals as goal

pub returns : goal.returns
returns c =
    let l : Targeted = record { keys = c.self.inside.keys; sums = c.self.inside.sums; writers = c.self.inside.writers } in
    let both = blocks_sum c.args.tree.now l c.self.invariant.0 c.self.invariant.1 c.args.txn c.args.group.now c.as_key.ensures.group.some c.args.holder in
    let tells : c.blocks-2.result ≡ is_blocker_in c.args.tree.now l.writers c.args.txn c.args.group.now Read c.args.holder =
    c.blocks-2.ensures ∙ ap (λ (k : List ℕ). is_blocker_in c.args.tree.now l.writers c.args.txn k Read c.args.holder) c.as_key.ensures.value in
    rw (sym c.self.view_is) (λ h. both.0 (sym tells ∙ h), λ b. tells ∙ both.1 b)
