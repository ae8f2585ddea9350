use Rattle.std.proofs.Common.{◌≡◌, filter, take}
use Rattle.lock_table.specs.Locked.{modes_of}
use Rattle.lock_table.specs.Blocking.{keeps_out}
use Rattle.lock_table.proofs.key_locks.keepers.Given as goal

abbrev pub invariant-loop-holder : goal.invariant-loop-holder
invariant-loop-holder l = l.found.items ≡ filter (keeps_out l.tree (modes_of l.locks) l.txn l.kind) (take l.holder-index l.holder-items)
