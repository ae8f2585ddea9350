use Rattle.std.proofs.Common.{take}
use Rattle.std.specs.Prelude.{◌≡◌}
use Rattle.sqlite.specs.Held.{state}
use Rattle.sql_store.specs.Asked.{MakesEach}
use Rattle.sql_store.specs.Calls.{IfInside}
use Rattle.sql_store.specs.Inside.{Steps}
use Rattle.sql_store.proofs.writes.make_each.Given as goal

abbrev pub invariant-loop-change : goal.invariant-loop-change
invariant-loop-change g l = record {
  same : l.tx.conn.ghost_name ≡ l.initial.tx.conn.ghost_name;
  steps : Steps (state g.S.Store l.initial.tx.conn.now) (state g.S.Store l.tx.conn.now);
  asked : IfInside g.S.Store l.initial.tx.conn.now l.tx.conn.now (MakesEach g.S.Store l.number (take l.change-index l.changes) l.initial.tx.conn.now l.tx.conn.now);
}
