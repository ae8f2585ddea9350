use Rattle.std.proofs.Common.{drop, take, ◌+◌, ◌≤◌, ◌-◌, length}
use Rattle.std.specs.Prelude.{◌≡◌, IsTrue}
use Rattle.sqlite.specs.Held.{state}
use Rattle.sql_store.specs.Asked.{have_values, ExecutedEach}
use Rattle.sql_store.specs.Calls.{IfInside}
use Rattle.sql_store.specs.Inside.{Steps}
use Rattle.sql_store.proofs.writes.make_all.Given as goal

abbrev pub invariant-loop-place : goal.invariant-loop-place
invariant-loop-place g l = record {
  within : l.place + l.fresh ≤ length l.changes;
  values : IsTrue (have_values (take l.fresh (drop l.place l.changes)));
  same : l.tx.conn.ghost_name ≡ l.initial.tx.conn.ghost_name;
  steps : Steps (state g.S.Store l.initial.tx.conn.now) (state g.S.Store l.tx.conn.now);
  asked : IfInside g.S.Store l.initial.tx.conn.now l.tx.conn.now (ExecutedEach g.S.Store l.number (take l.place l.changes) l.initial.tx.conn.now l.tx.conn.now);
}

abbrev pub decreases-loop-place : goal.decreases-loop-place
decreases-loop-place g l = length l.changes - l.place
