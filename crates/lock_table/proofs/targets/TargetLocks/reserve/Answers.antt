use Rattle.std.proofs.Common.{◌≡◌, sym, ◌∙◌}
use Rattle.std.proofs.lemmas.Result.{on_err_weaker, on_ok_weaker}
use Rattle.serial_spec.specs.declared.operation.Kind.TheVariants.{Read, Write}
use Rattle.lock_table.proofs.Places.{keys_same, may_hold}
use Rattle.lock_table.proofs.targets.TargetLocks.reserve.Goals as goal

never : Read ≡ Write → ⊥
never e = cc

pub returns-in-Read-clause-ok : goal.returns-in-Read-clause-ok
returns-in-Read-clause-ok c =
    on_ok_weaker c.reserve.result
    (may_hold c.self.inside.keys c.reserve.new.self c.self.inside.sums c.self.inside.writers c.self.inside.writers c.args.txn c.args.key.now c.args.kind (λ e. absurd (never (sym c.in-Read.is ∙ e))))
    c.reserve.ensures.ok

pub returns-in-Read-clause-err : goal.returns-in-Read-clause-err
returns-in-Read-clause-err c = rw (sym c.self.view_is) (
    on_err_weaker c.reserve.result
    (keys_same c.self.inside.keys c.reserve.new.self c.self.inside.sums c.self.inside.writers c.self.inside.writers)
    c.reserve.ensures.err)

pub returns-in_ok-make_marks-in-Write-clause-ok : goal.returns-in_ok-make_marks-in-Write-clause-ok
returns-in_ok-make_marks-in-Write-clause-ok c =
    on_ok_weaker c.reserve-in-Write.result
    (may_hold c.self.inside.keys c.reserve-in-Write.new.self c.self.inside.sums c.self.inside.writers c.make_marks.new.writers c.args.txn c.args.key.now c.args.kind (λ _. c.in_ok-make_marks-in-Write.ensures.ok))
    c.reserve-in-Write.ensures.ok

pub returns-in_ok-make_marks-in-Write-clause-err : goal.returns-in_ok-make_marks-in-Write-clause-err
returns-in_ok-make_marks-in-Write-clause-err c = rw (sym c.self.view_is) (
    on_err_weaker c.reserve-in-Write.result
    (keys_same c.self.inside.keys c.reserve-in-Write.new.self c.self.inside.sums c.self.inside.writers c.make_marks.new.writers)
    c.reserve-in-Write.ensures.err)
