use Rattle.std.proofs.Common.{◌≤◌, length, ◌∙◌, arith}
use Rattle.manager_core.proofs.Victims.{breaking_one, broken, fewer_pairs, victim_counts}
use Rattle.manager_core.proofs.breaking.break_cycles.Goals as goal

pub abort_victim-requires-clause-room : goal.abort_victim-requires-clause-room
abort_victim-requires-clause-room c =
    let far = c.loop-name.invariant.far in
    let some = victim_counts _ _ far.allowed c.in-Some.name c.in-Some.ensures.some _ far.are in
    omega (arith, some, c.loop-name.invariant.room)

pub abort_victim-requires-clause-marks_room : goal.abort_victim-requires-clause-marks_room
abort_victim-requires-clause-marks_room c =
    let far = c.loop-name.invariant.far in
    let some = victim_counts _ _ far.allowed c.in-Some.name c.in-Some.ensures.some _ far.are in
    omega (arith, some, c.loop-name.invariant.marks_room)

pub loop-name-preserved : goal.loop-name-preserved
loop-name-preserved c =
    let so_far = c.loop-name.invariant in
    let done = c.abort_victim.ensures in
    let fewer : length c.abort_victim.new.tables.waits.waits ≤ length c.loop-name.tables.waits.waits = omega (arith, done.fewer) in
    record {
      rows = done.rows ∙ so_far.rows;
      far = rw (done.rows, done.entries) (breaking_one _ _ _ _ _ so_far.far c.in-Some.name c.in-Some.ensures.some done.are);
      table = done.table ∙ so_far.table;
      room = omega (arith, done.fewer, done.room, so_far.room);
      marks_room = omega (arith, done.fewer, done.marks_room, so_far.marks_room);
      work_room = omega (arith, c.next_victim.ensures.room, fewer_pairs _ _ _ fewer so_far.work_room);
    }

pub returns : goal.returns
returns c =
    let so_far = c.loop-name.invariant in
    record {
      rows = so_far.rows;
      breaks = rw (← so_far.rows) (broken _ _ _ _ so_far.far c.in_default.ensures.none);
      table = so_far.table;
    }
