use Rattle.std.proofs.Common.{◌≡◌, Ok, length}
use Rattle.report_check.specs.Passing.{Read, read}
use Rattle.report_marks.specs.Noted.{IsUnderWay}
use Rattle.report_marks.proofs.noting.notes_of.Given as goal

abbrev pub invariant-lines : goal.invariant-lines
invariant-lines l = (whole : Read) → read l.bytes ≡ Ok whole → IsUnderWay whole l.rest l.stage l.notes

abbrev pub decreases-lines : goal.decreases-lines
decreases-lines l = length l.rest
