use Rattle.std.proofs.Common.{◌≡◌, ℕ, List, true}
use Rattle.serial_spec.specs.History.{History}
use Rattle.report_check.specs.Passing.{none_waits}
use Rattle.report_tables.specs.Spoken.{AreSessionsOf}
use Rattle.report_tables.proofs.sessions.none_waits.Given as goal

abbrev pub invariant-loop-number : goal.invariant-loop-number
invariant-loop-number l = (labels : List (List ℕ)) → (h : History) → AreSessionsOf labels h l.sessions.entries → none_waits h l.number ≡ true
