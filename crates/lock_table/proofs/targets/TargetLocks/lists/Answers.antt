use Rattle.std.proofs.Common.{sym}
use Rattle.lock_table.specs.Targeted.{Targeted}
use Rattle.lock_table.proofs.Listed.{group_listed, key_listed}
use Rattle.lock_table.proofs.targets.TargetLocks.lists.Goals as goal

pub returns-in-Key-clause-all : goal.returns-in-Key-clause-all
returns-in-Key-clause-all c =
    let l : Targeted = record { keys = c.self.inside.keys; sums = c.self.inside.sums; writers = c.self.inside.writers } in
    rw (sym c.self.view_is, c.in-Key.is) (key_listed l c.self.invariant.0 c.self.invariant.1 c.in-Key.key c.as_bytes.ensures.key.some)

pub returns-in-Group-clause-all : goal.returns-in-Group-clause-all
returns-in-Group-clause-all c =
    let l : Targeted = record { keys = c.self.inside.keys; sums = c.self.inside.sums; writers = c.self.inside.writers } in
    rw (sym c.self.view_is, c.in-Group.is) (group_listed l c.self.invariant.0 c.self.invariant.1 c.in-Group.group c.as_bytes-bytes.ensures.group.some)
