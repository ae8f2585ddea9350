use Rattle.std.proofs.Common.{◌≡◌, ◌<◌, false, length}
use Rattle.serial_spec.specs.declared.operation.Kind.TheVariants.{Write}
use Rattle.lock_table.specs.Blocking.{is_blocker_in}
use Rattle.lock_table.specs.Targeted.{AtGroups}
use Rattle.lock_table.proofs.groups.sum_blocks.Given as goal

abbrev pub invariant-loop-place : goal.invariant-loop-place
invariant-loop-place l = AtGroups l.key (λ g. length g < l.place → is_blocker_in l.tree l.sums l.txn g Write l.holder ≡ false)
