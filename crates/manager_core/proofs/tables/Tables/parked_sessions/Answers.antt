use Rattle.std.proofs.Common.{arith}
use Rattle.std.proofs.lemmas.Nat.Bits.{bit_at-zero}
use Rattle.serial_spec.specs.declared.entry.By.TheVariants.{Line}
use Rattle.manager_core.specs.Tables.{Tabled}
use Rattle.manager_core.proofs.KeptOut.{few_room, parked_access}
use Rattle.manager_core.proofs.tables.Tables.parked_sessions.Goals as goal

pub returns-then-has_room : goal.returns-then-has_room
returns-then-has_room c s is =
    let log = c.args.log.now in
    let m : Tabled = record { tree = c.self.inside.tree; marks = c.self.inside.marks; estate = c.self.inside.estate; waits = c.self.inside.waits } in
    let some = c.standing.ensures s is in
    let kept = c.self.invariant (Line s some.line) some.txn some.keeper some.seen in
    let are = rw (← c.self.view_is) at c.requires.are in
    let access =
    parked_access log.rows log.entries m c.requires.allowed are c.has_distinct_names.ensures.distinct (Line s some.line) some.txn some.keeper kept
    (few_room log.rows log.entries (omega (arith, c.known-has_room.ensures, c.if-has_room.true)) kept.asked) in
    record { line = some.line; event = access.0; waits = access.1; kept = access.2 }

pub returns-else-has_room : goal.returns-else-has_room
returns-else-has_room c s is = absurd (omega (arith, bit_at-zero s, is))
