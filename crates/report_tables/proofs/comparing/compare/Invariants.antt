use Rattle.std.proofs.Common.{◌≡◌, ◌≤◌, length}
use Rattle.report_tables.specs.inner.Compared.{compared_from}
use Rattle.report_tables.proofs.comparing.compare.Given as goal

abbrev pub invariant-loop-number : goal.invariant-loop-number
invariant-loop-number l = (l.place ≤ length l.table) × (compared_from l.first l.table l.values.entries 0 0 ≡ compared_from l.first l.table l.values.entries l.place l.number)
