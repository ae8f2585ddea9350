use Rattle.std.proofs.Common.{take}
use Rattle.std.specs.Io.KnownBytes.{Appends}
use Rattle.line_language.specs.Report.{spelled_rows}
use Rattle.durable_top.specs.Store.{plain}
use Rattle.report_text.proofs.report.put_opening.Given as goal

abbrev pub invariant-loop-row : goal.invariant-loop-row
invariant-loop-row g l = Appends (g.W.Write.contents l.initial.out) (g.W.Write.contents l.out) (spelled_rows (plain (take l.row-index l.rows)))
