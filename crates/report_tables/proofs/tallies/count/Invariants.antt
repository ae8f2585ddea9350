use Rattle.std.proofs.Common.{◌≡◌, take}
use Rattle.std.specs.List.{AllByRecursion}
use Rattle.std.specs.Map.{keys_of}
use Rattle.report_tables.specs.inner.Tallied.{AreNamed, IsFine}
use Rattle.report_tables.proofs.Counting.{Counted}
use Rattle.report_tables.proofs.tallies.count.Given as goal

abbrev pub invariant-loop-number : goal.invariant-loop-number
invariant-loop-number l =
    (keys_of l.groups.entries ≡ keys_of l.initial.groups.entries) × AreNamed l.groups.entries × Counted l.values.entries l.number l.groups.entries
    × AllByRecursion IsFine (take l.number l.values.entries)
