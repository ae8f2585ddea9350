use Rattle.std.proofs.Common.{◌≡◌, ℕ, List, Option, None}
use Rattle.std.specs.Map.{keys_of}
use Rattle.report_check.specs.Serving.{PlacedAccess}
use Rattle.report_tables.specs.Chained.{Leads, known_by}
use Rattle.report_tables.specs.inner.Tallied.{AreTallied}
use Rattle.report_tables.proofs.Running.{IsUnderWay}
use Rattle.report_tables.proofs.serving.run.Given as goal

abbrev pub invariant-loop-turn : goal.invariant-loop-turn
invariant-loop-turn l =
    AreTallied l.values.entries l.groups.entries × (keys_of l.groups.entries ≡ keys_of l.initial.groups.entries)
    × ((last : Option ℕ) → (ps : List PlacedAccess) → Leads l.accesses (known_by (keys_of l.initial.values.entries) (keys_of l.initial.groups.entries)) l.fn.first None last ps
    → IsUnderWay l.accesses (known_by (keys_of l.initial.values.entries) (keys_of l.initial.groups.entries)) last ps l.initial.values.entries l._turn l.next l.values.entries l.wrong)
