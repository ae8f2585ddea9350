use Rattle.std.proofs.Common.{◌≡◌, ◌<◌, false, length, IsTrue, List, ℕ}
use Rattle.txn_names.specs.Groups.{has}
use Rattle.serial_spec.specs.declared.operation.Kind.TheVariants.{Write}
use Rattle.lock_table.specs.Blocking.{is_blocked_in}
use Rattle.lock_table.proofs.groups.sums_let.Given as goal

abbrev pub invariant-loop-place : goal.invariant-loop-place
invariant-loop-place l = (g : List ℕ) → IsTrue (has g l.key) → 0 < length g → length g < l.place → is_blocked_in l.tree l.sums l.txn g Write ≡ false
