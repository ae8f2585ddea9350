use Rattle.std.proofs.Common.{drop, length}
use Rattle.std.specs.Prelude.{◌≡◌, ◌≤◌, IsTrue}
use Rattle.sqlite.specs.Held.{state}
use Rattle.sqlite.specs.State.{HasCleanDisk}
use Rattle.sql_store.specs.Asked.{PutsEach}
use Rattle.sql_store.specs.Inside.{Steps}
use Rattle.sql_store.specs.Laid.{laid}
use Rattle.sql_store.specs.Table.{table_of, IsReady}
use Rattle.sql_store.proofs.inside.move_rows.Given as goal

abbrev pub invariant-loop-left : goal.invariant-loop-left
invariant-loop-left g l = record {
  within : l.left ≤ length l.rows;
  same : l.tx.conn.ghost_name ≡ l.initial.tx.conn.ghost_name;
  steps : Steps (state g.S.Store l.initial.tx.conn.now) (state g.S.Store l.tx.conn.now);
  inside : HasCleanDisk (state g.S.Store l.tx.conn.now) → IsTrue (state g.S.Store l.initial.tx.conn.now).in_transaction → IsTrue (state g.S.Store l.tx.conn.now).in_transaction;
  asked : HasCleanDisk (state g.S.Store l.tx.conn.now) → IsTrue (state g.S.Store l.initial.tx.conn.now).in_transaction → PutsEach g.S.Store (drop l.left l.rows) l.initial.tx.conn.now l.tx.conn.now;
  ready : HasCleanDisk (state g.S.Store l.tx.conn.now) → IsTrue (state g.S.Store l.initial.tx.conn.now).in_transaction → IsReady (state g.S.Store l.initial.tx.conn.now).now → IsReady (state g.S.Store l.tx.conn.now).now;
  table : HasCleanDisk (state g.S.Store l.tx.conn.now) → IsTrue (state g.S.Store l.initial.tx.conn.now).in_transaction → IsReady (state g.S.Store l.initial.tx.conn.now).now → table_of (state g.S.Store l.tx.conn.now).now ≡ laid (drop l.left l.rows) (table_of (state g.S.Store l.initial.tx.conn.now).now);
  others : HasCleanDisk (state g.S.Store l.tx.conn.now) → IsTrue (state g.S.Store l.initial.tx.conn.now).in_transaction → IsReady (state g.S.Store l.initial.tx.conn.now).now → (state g.S.Store l.tx.conn.now).now.trees 0 ≡ (state g.S.Store l.initial.tx.conn.now).now.trees 0;
}

abbrev pub decreases-loop-left : goal.decreases-loop-left
decreases-loop-left g l = l.left
