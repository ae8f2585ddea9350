use Rattle.std.proofs.Common.{◌≡◌, ◌≤◌, ◌*◌, length}
use Rattle.txn_history.specs.Laws.{QuietBut}
use Rattle.manager_core.specs.Tables.{rows_in}
use Rattle.manager_core.proofs.Victims.{BreakingAt}
use Rattle.manager_core.proofs.breaking.break_own_cycles.Given as goal

abbrev pub invariant-loop-last : goal.invariant-loop-last
invariant-loop-last l = record {
  rows : l.log.rows ≡ l.initial.log.rows;
  far : BreakingAt l.log.rows l.initial.log.entries l.log.entries l.tables;
  own : QuietBut l.name l.log.entries;
  table : rows_in l.tables ≡ rows_in l.initial.tables;
  room : length l.tables.waits.waits ≤ l.log.room;
  marks_room : length l.tables.waits.waits ≤ l.tables.marks.room;
  work_room : length l.tables.waits.waits * length l.tables.waits.waits ≤ l.breaker;
}

abbrev pub decreases-loop-last : goal.decreases-loop-last
decreases-loop-last l = length l.tables.waits.waits
