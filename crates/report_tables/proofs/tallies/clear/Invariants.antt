use Rattle.std.proofs.Common.{◌≡◌}
use Rattle.std.specs.Map.{keys_of}
use Rattle.report_tables.proofs.Counting.{Cleared}
use Rattle.report_tables.proofs.tallies.clear.Given as goal

abbrev pub invariant-loop-number : goal.invariant-loop-number
invariant-loop-number l = (keys_of l.groups.entries ≡ keys_of l.initial.groups.entries) × Cleared l.groups.entries l.number
