use Rattle.std.proofs.Common.{◌≡◌, ℕ, ◌<◌, None}
use Rattle.serial_spec.specs.Interleaving.{next_event}
use Rattle.interleavings.proofs.turns.Turns.first_open.Given as goal

-- none before has a line left
abbrev pub invariant-loop-session : goal.invariant-loop-session
invariant-loop-session g l = (u : ℕ) → u < l.session → next_event l.self.sessions l.self.core.history u ≡ None
