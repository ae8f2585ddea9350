use Rattle.std.proofs.Common.{◌≡◌, ◌+◌, ◌-◌, ◌≤◌, length, take, drop}
use Rattle.std.specs.Prelude.{IsTrue}
use Rattle.std.specs.List.{prefix_len}
use Rattle.serial_spec.specs.Rows.{value_in}
use Rattle.sql_store.specs.Asked.{is_new, have_values}
use Rattle.sql_store.proofs.writes.new_len.Given as goal

abbrev pub invariant-loop-count : goal.invariant-loop-count
invariant-loop-count l = record {
  within : l.count ≤ length l.changes;
  most : l.count ≤ 16;
  fresh : l.count + prefix_len (is_new (value_in l.numbers.rows)) (drop l.count l.changes) ≡ prefix_len (is_new (value_in l.numbers.rows)) l.changes;
  values : IsTrue (have_values (take l.count l.changes));
}

abbrev pub decreases-loop-count : goal.decreases-loop-count
decreases-loop-count l = 16 - l.count
