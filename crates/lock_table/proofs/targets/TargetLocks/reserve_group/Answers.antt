use Rattle.std.proofs.Common.{◌≡◌, List, ℕ, true, subst, sym}
use Rattle.std.proofs.lemmas.Result.{on_err_weaker, on_ok_weaker}
use Rattle.lock_table.specs.Locked as one
use Rattle.lock_table.proofs.Places.{placed_there, sums_same}
use Rattle.lock_table.proofs.targets.TargetLocks.reserve_group.Goals as goal

pub returns-clause-ok : goal.returns-clause-ok
returns-clause-ok c =
    on_ok_weaker c.reserve.result
    (λ made. subst (λ (k : List ℕ). one.has_place c.reserve.new.self c.args.txn k ≡ true) c.as_key.ensures.value
    (placed_there (one.has_place c.self.inside.sums) (one.has_place c.reserve.new.self) c.args.txn c.as_key.result made))
    c.reserve.ensures.ok

pub returns-clause-err : goal.returns-clause-err
returns-clause-err c = rw (sym c.self.view_is) (on_err_weaker c.reserve.result (sums_same c.self.inside.keys c.self.inside.sums c.reserve.new.self c.self.inside.writers) c.reserve.ensures.err)
