use Rattle.std.proofs.Common.{take}
use Rattle.std.specs.Io.KnownBytes.{Appends}
use Rattle.line_language.specs.Report.{spelled_rows}
use Rattle.report_text.proofs.entries.put_table.Given as goal

abbrev pub invariant-loop-place : goal.invariant-loop-place
invariant-loop-place g l = Appends (g.W.Write.contents l.initial.out) (g.W.Write.contents l.out) (spelled_rows (take l.place l.table.rows))
