use Rattle.std.proofs.Common.{ℕ, List, ◌+◌, ◌≤◌, length}
use Rattle.report_judge.specs.Judging.{Stands}
use Rattle.report_judge.proofs.Judging.{IsUnderWay}
use Rattle.report_judge.proofs.lines.take_bytes.Given as goal

abbrev pub invariant-lines : goal.invariant-lines
invariant-lines l =
    ((bs : List ℕ) → Stands bs l.fn.judge → IsUnderWay bs l.bytes l.rest l.judge) × (l.judge.standing.line + length l.rest ≤ l.fn.judge.standing.line + length l.bytes)

abbrev pub decreases-lines : goal.decreases-lines
decreases-lines l = length l.rest
