use Rattle.std.proofs.Common.{◌≡◌, ℕ, ◌-◌, ◌<◌, false, length}
use Rattle.interleavings.specs.LeftOut.{AreLeftOut}
use Rattle.interleavings.specs.Turning.{can_go_on}
use Rattle.interleavings.proofs.turns.Turns.some_goes_on.Given as goal

-- none before can go on
abbrev pub invariant-loop-session : goal.invariant-loop-session
invariant-loop-session g l = record {
  left : AreLeftOut l.self.core.rows l.self.sessions l.self.core.history l.ready;
  none : (u : ℕ) → u < l.from → can_go_on l.self.core.rows l.self.sessions l.self.core.history u ≡ false;
}

abbrev pub decreases-loop-session : goal.decreases-loop-session
decreases-loop-session g l = length l.self.sessions - l.from
