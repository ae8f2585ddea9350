use Rattle.std.proofs.Common.{◌≡◌, ◌≤◌, ◌<◌, ℕ, Some, true}
use Rattle.std.specs.Prelude.{slice_get}
use Rattle.wait_cycles.specs.Cycles.{is_member}
use Rattle.wait_cycles.proofs.cycle.victim.Given as goal

abbrev pub invariant-loop-member : goal.invariant-loop-member
invariant-loop-member l =
    (is_member l.last l.members ≡ true) × ((i b : ℕ) → i < l.member-index → slice_get l.members i ≡ Some b → b ≤ l.last)
