use Rattle.std.proofs.Common.{[], drop, reverse, take}
use Rattle.line_language.specs.Report.{spelled_history}
use Rattle.report_text.specs.inner.Batched.{Batches}
use Rattle.report_text.proofs.entries.put_history.Given as goal

abbrev pub invariant-loop-place : goal.invariant-loop-place
invariant-loop-place g l = Batches (g.W.Write.contents l.initial.out) (g.W.Write.contents l.out) [] l.batch
    (spelled_history l.labels (reverse (take l.place (drop l.told l.entries.entries))))
