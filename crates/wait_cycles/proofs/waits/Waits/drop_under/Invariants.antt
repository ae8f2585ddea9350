use Rattle.std.proofs.Common.{◌≤◌}
use Rattle.wait_cycles.specs.Waiting.{is_under}
use Rattle.wait_cycles.specs.Sieve.{AreMarked}
use Rattle.wait_cycles.proofs.Listed.{AreLeft}
use Rattle.wait_cycles.proofs.waits.Waits.drop_under.Given as goal

abbrev pub invariant-loop-place : goal.invariant-loop-place
invariant-loop-place l = AreLeft (is_under l.tree l.txn) l.place l.initial.self-inside.records.waits l.self-inside.records.waits × (l.initial.self-inside.records.room ≤ l.self-inside.records.room) × AreMarked l.self-inside.sieve l.self-inside.records.waits

abbrev pub decreases-loop-place : goal.decreases-loop-place
decreases-loop-place l = l.place
