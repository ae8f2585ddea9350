use Rattle.std.proofs.Common.{◌≡◌, ◌<◌}
use Rattle.report_tables.specs.inner.Tallied.{raised}
use Rattle.report_tables.proofs.Tallying.{upto}
use Rattle.report_tables.proofs.tallies.raise_all.Given as goal

abbrev pub invariant-loop-place : goal.invariant-loop-place
invariant-loop-place l = (l.groups.entries ≡ raised (upto l.key l.difference l.place) l.initial.groups.entries) × (0 < l.place)
