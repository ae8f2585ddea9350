use Rattle.std.proofs.Common.{sym}
use Rattle.std.proofs.lemmas.Result.{on_err_weaker}
use Rattle.lock_table.proofs.Places.{sums_modes_same, sums_same}
use Rattle.lock_table.proofs.targets.TargetLocks.lock_group.Goals as goal

pub returns-clause-kept : goal.returns-clause-kept
returns-clause-kept c = rw (sym c.self.view_is) (on_err_weaker c.lock.result (sums_modes_same c.self.inside.keys c.self.inside.sums c.lock.new.self c.self.inside.writers) c.lock.ensures.kept)

pub returns-clause-err : goal.returns-clause-err
returns-clause-err c = rw (sym c.self.view_is) (on_err_weaker c.lock.result (sums_same c.self.inside.keys c.self.inside.sums c.lock.new.self c.self.inside.writers) c.lock.ensures.err)
