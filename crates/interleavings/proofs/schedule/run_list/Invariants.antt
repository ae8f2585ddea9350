use Rattle.std.proofs.Common.{take}
use Rattle.interleavings.specs.Scheduled.{RunsList}
use Rattle.interleavings.proofs.schedule.run_list.Given as goal

abbrev pub invariant-loop-place : goal.invariant-loop-place
invariant-loop-place g l = RunsList g.S.TopStore (take l.place l.schedule) l.initial.turns l.turns
