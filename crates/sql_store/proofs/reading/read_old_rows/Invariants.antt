use Rattle.std.proofs.Common.{◌≡◌, take, map, pos, ◌≤ℤ◌}
use Rattle.std.specs.List.{AllByRecursion}
use Rattle.sql_store.specs.Reading.{told, seen_old}
use Rattle.sql_store.proofs.reading.read_old_rows.Given as goal

abbrev pub invariant-loop-row : goal.invariant-loop-row
invariant-loop-row l = (map told l.all.items ≡ map seen_old (take l.row-index l.rows)) × AllByRecursion (λ r. pos 0 ≤ℤ r.commit) l.all.items
