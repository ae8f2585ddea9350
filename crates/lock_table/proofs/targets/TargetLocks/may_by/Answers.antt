use Rattle.std.proofs.Common.{◌≡◌, false, not, sym, ◌∙◌, true≢false}
use Rattle.std.proofs.lemmas.Bool.{not-true, not_from_false}
use Rattle.serial_spec.specs.declared.operation.Kind.TheVariants.{Read, Write}
use Rattle.lock_table.specs.Blocking.{is_blocked_in}
use Rattle.lock_table.specs.Targeted.{Targeted}
use Rattle.lock_table.proofs.Reaching.{may_read, may_write, may_write_back}
use Rattle.lock_table.proofs.targets.TargetLocks.may_by.Goals as goal

pub returns-in-Read : goal.returns-in-Read
returns-in-Read c =
    let l : Targeted = record { keys = c.self.inside.keys; sums = c.self.inside.sums; writers = c.self.inside.writers } in
    let both = may_read c.args.tree.now l c.self.invariant.0 c.self.invariant.1 c.args.txn c.args.key.now in
    let told : c.args.is_let ≡ not (is_blocked_in c.args.tree.now l.keys c.args.txn c.args.key.now Read) =
    rw c.in-Read.is at rw (sym c.self.view_is) at c.requires in
    rw (sym c.self.view_is, c.in-Read.is) (λ h. both.0 (sym told ∙ h), λ h. told ∙ both.1 h)

pub returns-then-is_let : goal.returns-then-is_let
returns-then-is_let c =
    let l : Targeted = record { keys = c.self.inside.keys; sums = c.self.inside.sums; writers = c.self.inside.writers } in
    let told : c.args.is_let ≡ not (is_blocked_in c.args.tree.now l.keys c.args.txn c.args.key.now Write) =
    rw c.in-Write.is at rw (sym c.self.view_is) at c.requires in
    let opens : is_blocked_in c.args.tree.now l.keys c.args.txn c.args.key.now Write ≡ false = not-true _ (sym told ∙ c.if-is_let.true) in
    rw (sym c.self.view_is, c.in-Write.is) (
      λ h. may_write c.args.tree.now l c.self.invariant.0 c.self.invariant.1 c.args.txn c.args.key.now opens (c.sums_let.ensures.0 h),
      λ h. c.sums_let.ensures.1 (may_write_back c.args.tree.now l c.self.invariant.0 c.self.invariant.1 c.args.txn c.args.key.now h).1,
    )

pub returns-else-is_let : goal.returns-else-is_let
returns-else-is_let c =
    let l : Targeted = record { keys = c.self.inside.keys; sums = c.self.inside.sums; writers = c.self.inside.writers } in
    let told : c.args.is_let ≡ not (is_blocked_in c.args.tree.now l.keys c.args.txn c.args.key.now Write) =
    rw c.in-Write.is at rw (sym c.self.view_is) at c.requires in
    rw (sym c.self.view_is, c.in-Write.is) (
      λ h. absurd (true≢false (sym h ∙ c.if-is_let.false)),
      λ h. told ∙ not_from_false _ (may_write_back c.args.tree.now l c.self.invariant.0 c.self.invariant.1 c.args.txn c.args.key.now h).0,
    )
