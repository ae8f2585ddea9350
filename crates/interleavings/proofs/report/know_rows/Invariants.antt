use Rattle.std.proofs.Common.{take}
use Rattle.std.specs.List.{AllByRecursion}
use Rattle.durable_top.specs.Store.{plain}
use Rattle.run_reports.specs.Reports.{IsRow}
use Rattle.interleavings.proofs.report.know_rows.Given as goal

abbrev pub invariant-loop-row : goal.invariant-loop-row
invariant-loop-row l = AllByRecursion IsRow (plain (take l.row-index l.rows))
