use Rattle.std.proofs.Common.{◌≡◌, sym, ◌∙◌}
use Rattle.std.proofs.lemmas.Result.{on_err_weaker, on_ok_weaker}
use Rattle.serial_spec.specs.declared.operation.Kind.TheVariants.{Read, Write}
use Rattle.lock_table.proofs.Marked.{marks_same, writers_held}
use Rattle.lock_table.proofs.Places.{keys_modes_same, keys_same, may_hold}
use Rattle.lock_table.proofs.targets.TargetLocks.lock.Goals as goal

never : Read ≡ Write → ⊥
never e = cc

pub invariant_of-self-in-Write : goal.invariant_of-self-in-Write
invariant_of-self-in-Write c =
    let made = c.make_marks in
    let are = marks_same c.self.inside.keys c.self.inside.writers made.new.writers c.self.invariant.0 made.ensures.modes in (
      writers_held c.self.inside.keys made.new.writers c.lock-in-Write.new.self c.mark_from.new.writers c.args.txn c.args.key.now are c.in_ok-lock-in-Write.ensures.modes c.mark_from.ensures.modes,
      c.self.invariant.1,
    )

pub returns-in-Read-clause-ok : goal.returns-in-Read-clause-ok
returns-in-Read-clause-ok c =
    on_ok_weaker c.lock.result
    (may_hold c.self.inside.keys c.lock.new.self c.self.inside.sums c.self.inside.writers c.self.inside.writers c.args.txn c.args.key.now c.args.kind (λ e. absurd (never (sym c.in-Read.is ∙ e))))
    c.lock.ensures.ok

pub returns-in-Read-clause-kept : goal.returns-in-Read-clause-kept
returns-in-Read-clause-kept c = rw (sym c.self.view_is) (
    on_err_weaker c.lock.result
    (keys_modes_same c.self.inside.keys c.lock.new.self c.self.inside.sums c.self.inside.writers c.self.inside.writers)
    c.lock.ensures.kept)

pub returns-in-Read-clause-err : goal.returns-in-Read-clause-err
returns-in-Read-clause-err c = rw (sym c.self.view_is) (
    on_err_weaker c.lock.result
    (keys_same c.self.inside.keys c.lock.new.self c.self.inside.sums c.self.inside.writers c.self.inside.writers)
    c.lock.ensures.err)
