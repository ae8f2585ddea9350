use Rattle.std.proofs.Common.{ℕ, rules}
use Rattle.std.specs.Prelude.{ltb}
use Rattle.std.proofs.lemmas.List.Sorted.{IsPartitionedBy-ltb, IsPartitionPoint-from_clause}
use Rattle.wait_cycles.proofs.Sorted.{parted, rises_from}
use Rattle.wait_cycles.proofs.order.first_place.Goals as goal

pub returns : goal.returns
returns c =
    let sorted = c.args.sorted.now in
    let txn = c.args.txn in
    parted sorted txn c.partition_point.result
    (IsPartitionPoint-from_clause (λ (p : ℕ × ℕ). ltb p.0 txn) sorted c.partition_point.result c.partition_point.ensures.partitioned
    (IsPartitionedBy-ltb (λ (p : ℕ × ℕ). p.0) sorted txn (rises_from sorted c.requires)) (λ a r f q. search rules))
