use Rattle.std.proofs.Common.{◌≡◌, ℕ, ◌<◌}
use Rattle.std.specs.Prelude.{slice_get}
use Rattle.shared_book.proofs.same.same_sessions.Given as goal

-- the sessions before this one are the same
abbrev pub invariant-loop-session : goal.invariant-loop-session
invariant-loop-session l = (s : ℕ) → s < l.session → slice_get l.a s ≡ slice_get l.b s
