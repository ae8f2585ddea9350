use Rattle.std.proofs.Common.{◌≡◌, true, ⊎_elim, sym, ◌∙◌, true≢false}
use Rattle.serial_spec.specs.declared.operation.Kind.TheVariants.{Write}
use Rattle.lock_table.specs.Blocking.{is_blocker_in}
use Rattle.lock_table.specs.Targeted.{BlocksBySum, Targeted}
use Rattle.lock_table.proofs.Reaching.{blocks_read, blocks_write, by_key, by_sum}
use Rattle.lock_table.proofs.targets.TargetLocks.blocks.Goals as goal

pub returns-in-Read : goal.returns-in-Read
returns-in-Read c =
    let l : Targeted = record { keys = c.self.inside.keys; sums = c.self.inside.sums; writers = c.self.inside.writers } in
    let both = blocks_read c.args.tree.now l c.self.invariant.0 c.self.invariant.1 c.args.txn c.args.key.now c.args.holder in
    rw (sym c.self.view_is, c.in-Read.is) (λ h. both.0 (sym c.blocks-in-Read.ensures ∙ h), λ b. c.blocks-in-Read.ensures ∙ both.1 b)

pub returns-then-blocks : goal.returns-then-blocks
returns-then-blocks c =
    let l : Targeted = record { keys = c.self.inside.keys; sums = c.self.inside.sums; writers = c.self.inside.writers } in
    rw (sym c.self.view_is, c.in-Write.is) (
      λ h. by_key c.args.tree.now l c.self.invariant.0 c.self.invariant.1 c.args.txn c.args.key.now Write c.args.holder (sym c.blocks-in-Write.ensures ∙ h),
      λ _. c.if-blocks.true,
    )

pub returns-else-blocks : goal.returns-else-blocks
returns-else-blocks c =
    let l : Targeted = record { keys = c.self.inside.keys; sums = c.self.inside.sums; writers = c.self.inside.writers } in
    rw (sym c.self.view_is, c.in-Write.is) (
      λ h. by_sum c.args.tree.now l c.self.invariant.0 c.self.invariant.1 c.args.txn c.args.key.now c.args.holder (c.sum_blocks.ensures.0 h),
      λ b. ⊎_elim
          (λ (held : is_blocker_in c.args.tree.now l.keys c.args.txn c.args.key.now Write c.args.holder ≡ true). absurd (true≢false (sym held ∙ sym c.blocks-in-Write.ensures ∙ c.if-blocks.false)))
          (λ (summed : BlocksBySum c.args.tree.now l.sums c.args.txn c.args.key.now c.args.holder). c.sum_blocks.ensures.1 summed)
          (blocks_write c.args.tree.now l c.self.invariant.0 c.self.invariant.1 c.args.txn c.args.key.now c.args.holder b),
    )
