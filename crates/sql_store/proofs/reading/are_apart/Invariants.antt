use Rattle.std.proofs.Common.{◌≡◌, drop, None}
use Rattle.sql_store.specs.Ids.{rises}
use Rattle.sql_store.proofs.reading.are_apart.Given as goal

abbrev pub invariant-loop-row : goal.invariant-loop-row
invariant-loop-row l = rises l.low (drop l.row-index l.rows) ≡ rises None l.rows
