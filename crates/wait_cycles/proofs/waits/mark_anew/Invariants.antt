use Rattle.std.proofs.Common.{◌≡◌, ◌<◌, ℕ, Some}
use Rattle.std.specs.Prelude.{slice_get}
use Rattle.wait_cycles.specs.declared.waits.Wait.{Wait}
use Rattle.wait_cycles.specs.Sieve.{HasPlace, places_for}
use Rattle.wait_cycles.proofs.waits.mark_anew.Given as goal

abbrev pub invariant-loop-place : goal.invariant-loop-place
invariant-loop-place l = (i : ℕ) (w : Wait) → i < l.place → slice_get l.records.waits i ≡ Some w → HasPlace (places_for l.sieve w.asked) i
