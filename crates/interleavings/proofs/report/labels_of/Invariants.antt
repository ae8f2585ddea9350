use Rattle.std.proofs.Common.{◌≡◌, ◌-◌, ◌≤◌, length, map, take}
use Rattle.interleavings.proofs.report.labels_of.Given as goal

abbrev pub invariant-loop-label : goal.invariant-loop-label
invariant-loop-label l = record {
  few : length l.sessions ≤ 64;
  within : l.session ≤ length l.sessions;
  labels : l.labels.items ≡ map (λ s. s.label) (take l.session l.sessions);
}

abbrev pub decreases-loop-label : goal.decreases-loop-label
decreases-loop-label l = length l.sessions - l.session
