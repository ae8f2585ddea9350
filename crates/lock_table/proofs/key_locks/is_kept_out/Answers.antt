use Rattle.std.proofs.Common.{◌∙◌}
use Rattle.lock_table.specs.Locked.{modes_of}
use Rattle.lock_table.proofs.Blockers.{among_rivals}
use Rattle.lock_table.proofs.key_locks.is_kept_out.Goals as goal

pub returns : goal.returns
returns c = c.any_keeps_out.ensures ∙ among_rivals c.args.tree.now (modes_of c.args.locks.now) c.args.txn c.args.kind c.rivals.result.now c.rivals.ensures.all
