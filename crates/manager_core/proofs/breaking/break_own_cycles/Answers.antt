use Rattle.std.proofs.Common.{◌≤◌, length, refl, ◌∙◌, arith}
use Rattle.serial_spec.specs.Interleaving.{victim}
use Rattle.txn_history.proofs.Exports.{own_stays}
use Rattle.manager_core.proofs.Victims.{breaking_one, broken, fewer_pairs, victim_counts}
use Rattle.manager_core.proofs.breaking.break_own_cycles.Goals as goal

pub abort_victim-requires-clause-room : goal.abort_victim-requires-clause-room
abort_victim-requires-clause-room c =
    let far = c.loop-last.invariant.far in
    let some = victim_counts _ _ far.allowed c.in-Some.last c.in-Some.ensures.some _ far.are in
    omega (arith, some, c.loop-last.invariant.room)

pub abort_victim-requires-clause-marks_room : goal.abort_victim-requires-clause-marks_room
abort_victim-requires-clause-marks_room c =
    let far = c.loop-last.invariant.far in
    let some = victim_counts _ _ far.allowed c.in-Some.last c.in-Some.ensures.some _ far.are in
    omega (arith, some, c.loop-last.invariant.marks_room)

pub loop-last-preserved : goal.loop-last-preserved
loop-last-preserved c =
    let so_far = c.loop-last.invariant in
    let done = c.abort_victim.ensures in
    let last = c.in-Some.last in
    let is = c.in-Some.ensures.some in
    let fewer : length c.abort_victim.new.tables.waits.waits ≤ length c.loop-last.tables.waits.waits = omega (arith, done.fewer) in
    record {
      rows = done.rows ∙ so_far.rows;
      far = rw (done.rows, done.entries) (breaking_one _ _ _ _ _ so_far.far last is done.are);
      own = rw done.entries (own_stays _ (victim last) _ (so_far.far.allowed, is) refl c.args.name.now so_far.own);
      table = done.table ∙ so_far.table;
      room = omega (arith, done.fewer, done.room, so_far.room);
      marks_room = omega (arith, done.fewer, done.marks_room, so_far.marks_room);
      work_room = omega (arith, c.next_own_victim.ensures.room, fewer_pairs _ _ _ fewer so_far.work_room);
    }

pub returns : goal.returns
returns c =
    let so_far = c.loop-last.invariant in
    record {
      rows = so_far.rows;
      breaks = rw (← so_far.rows) (broken _ _ _ _ so_far.far c.in_default.ensures.none);
      table = so_far.table;
    }
