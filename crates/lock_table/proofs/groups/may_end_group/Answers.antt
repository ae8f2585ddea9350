use Rattle.std.proofs.Common.{length, ap, arith}
use Rattle.lock_table.proofs.Reaching.{no_dot}
use Rattle.lock_table.proofs.groups.may_end_group.Goals as goal

pub returns-else-place-bytes : goal.returns-else-place-bytes
returns-else-place-bytes c _ = no_dot c.args.key.now c.args.place (λ within _. omega (arith, within, c.if-place-bytes.false, ap length c.as_bytes-bytes.ensures.value))
