use Rattle.std.proofs.Common.{◌≡◌, ◌≤◌, ◌+◌, length}
use Rattle.tree_pictures.specs.Marks.{waiting_at}
use Rattle.tree_pictures.proofs.victims.waiting_at.Given as goal

abbrev pub invariant-loop-rest : goal.invariant-loop-rest
invariant-loop-rest l = record { few : l.count + length l.rest ≤ length l.waits; all : l.count + waiting_at l.entry l.rest ≡ waiting_at l.entry l.waits }

abbrev pub decreases-loop-rest : goal.decreases-loop-rest
decreases-loop-rest l = length l.rest
