use Rattle.std.proofs.Common.{◌≤◌, ◌-◌, length}
use Rattle.interleavings.specs.Scheduled.{RunsEach}
use Rattle.interleavings.proofs.schedule.run_each.Given as goal

abbrev pub invariant-loop-session : goal.invariant-loop-session
invariant-loop-session g l = record {
  each : RunsEach g.S.TopStore l.from l.initial.turns l.turns;
  within : l.from ≤ length l.initial.turns.sessions;
}

abbrev pub decreases-loop-session : goal.decreases-loop-session
decreases-loop-session g l = length l.initial.turns.sessions - l.from
