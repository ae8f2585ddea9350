use Rattle.std.proofs.Common.{◌≡◌, List, ℕ, nat_eq, nat_lt, false, true, subst, sym, arith, rules}
use Rattle.std.specs.List.{list_any}
use Rattle.std.specs.List.Sorted.{IsStrictlyIncreasing}
use Rattle.std.proofs.lemmas.Bool.{ltb-true, ltb-false}
use Rattle.std.proofs.lemmas.List.Sorted.{IsPartitionPoint-from_clause, IsPartitionedBy-ltb}
use Rattle.std.proofs.lemmas.Map.Keys.{sorted_from_strictly_increasing, non_decreasing_from_sorted}
use Rattle.txn_cells.proofs.Exports.{contained, rising_insert}
use Rattle.lock_table.specs.Targeted.{IsJoined}
use Rattle.lock_table.proofs.Joined.{joined_insert}
use Rattle.lock_table.proofs.numbers.add.Goals as goal

pub returns-in-Ok-clause-rising : goal.returns-in-Ok-clause-rising
returns-in-Ok-clause-rising c =
    let numbers : List ℕ = c.args.numbers.now.items in
    let asked = contained numbers c.args.txn in
    let fresh : list_any (nat_eq c.args.txn) numbers ≡ false = search rules in
    let ordered = non_decreasing_from_sorted numbers (sorted_from_strictly_increasing numbers c.requires) in
    let parted = IsPartitionedBy-ltb (λ x. x) numbers c.args.txn ordered in
    let clauses = rw c.deref-2.ensures.value at c.partition_point-place.ensures in
    let point = IsPartitionPoint-from_clause (λ n. nat_lt n c.args.txn) _ _ clauses.partitioned parted (λ a r q k. search rules) in
    subst (λ (xs : List ℕ). IsStrictlyIncreasing xs) (sym c.in-Ok.ensures.items)
    (rising_insert numbers c.args.txn c.partition_point-place.result c.requires fresh clauses.bound
    (λ i d before. ltb-true _ _ (point.0 i d (omega (arith, clauses.bound, before)) before))
    (λ i d since within. ltb-false _ _ (point.1 i d since within)))

pub returns-in-Ok-clause-ok : goal.returns-in-Ok-clause-ok
returns-in-Ok-clause-ok c =
    let P : List ℕ → Type 0 = λ xs. IsJoined c.args.numbers.now.items (λ u. nat_eq c.args.txn u ≡ true) xs in
    subst P (sym c.in-Ok.ensures.items) (joined_insert c.args.numbers.now.items c.args.txn c.partition_point-place.result)
