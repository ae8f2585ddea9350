use Rattle.std.proofs.Common.{◌≡◌, ◌*◌, length, take}
use Rattle.sqlite.specs.Values.{bound}
use Rattle.sql_store.specs.Asked.{params_all}
use Rattle.sql_store.proofs.rows.fill.Given as goal

abbrev pub invariant-loop-index : goal.invariant-loop-index
invariant-loop-index l = record {
  size : length l.params ≡ 3 * length l.rows;
  filled : bound (take (3 * l.index) l.params) ≡ params_all l.number (take l.index l.rows);
}
