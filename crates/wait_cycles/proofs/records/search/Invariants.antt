use Rattle.std.proofs.Common.{◌≡◌, ℕ, Some, Contains}
use Rattle.slab.specs.Slab.{get}
use Rattle.wait_cycles.specs.declared.records.Record.{Record}
use Rattle.wait_cycles.proofs.records.search.Given as goal

-- a record of the transaction is among the entries that are left, and every entry left is the slab's
abbrev pub invariant-loop-record : goal.invariant-loop-record
invariant-loop-record l =
    (goal.iterator-loop-record).can_next l.record-iterator ×
    (goal.iterator-loop-record).is_finite l.record-iterator ×
    ((k : ℕ) (r : Record) → get l.slab k ≡ Some r → r.wait.txn ≡ l.txn → Contains l.record-iterator (k, r)) ×
    ((k : ℕ) (r : Record) → Contains l.record-iterator (k, r) → get l.slab k ≡ Some r)
