use Rattle.interleavings.specs.Runs.{AreThere}
use Rattle.interleavings.proofs.run.stray.Given as goal

abbrev pub invariant-loop-place : goal.invariant-loop-place
invariant-loop-place l = AreThere l.count l.schedule l.place
