use Rattle.std.proofs.Common.{take}
use Rattle.std.specs.Io.KnownBytes.{Appends}
use Rattle.report_text.specs.Rows.{numbered_rows}
use Rattle.report_text.proofs.rows.write_rows.Given as goal

abbrev pub invariant-loop-row : goal.invariant-loop-row
invariant-loop-row g l = Appends (g.W.Write.contents l.initial.out) (g.W.Write.contents l.out) (numbered_rows (take l.row-index l.rows))
