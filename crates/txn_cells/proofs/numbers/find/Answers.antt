use Rattle.std.proofs.Common.{◌≡◌, ℕ, List, nat_eq, false}
use Rattle.std.specs.Prelude.{Err, IfErr, OnErr, Ok, Result}
use Rattle.std.specs.List.{insert, list_any}
use Rattle.std.specs.List.Sorted.{IsBinarySearchResult, IsStrictlyIncreasing}
use Rattle.std.specs.Ordering.{nat_cmp}
use Rattle.txn_cells.proofs.ByKey.{absent_at, rising_at}
use Rattle.txn_cells.proofs.numbers.find.Goals as goal

module _ (xs : List ℕ) (t : ℕ) (rising : IsStrictlyIncreasing xs) where
  absent : (r : Result ℕ ℕ) → IsBinarySearchResult (λ y. nat_cmp y t) xs r → OnErr r (list_any (nat_eq t) xs ≡ false)
  absent (Ok i) is = tt
  absent (Err i) is = absent_at xs t rising i is

  belongs : (r : Result ℕ ℕ) → IsBinarySearchResult (λ y. nat_cmp y t) xs r → IfErr r (λ i. IsStrictlyIncreasing (insert xs i t))
  belongs (Ok i) is = tt
  belongs (Err i) is = rising_at xs t rising i is

pub returns-clause-absent : goal.returns-clause-absent
returns-clause-absent c = absent c.args.numbers.now c.args.txn c.requires c.binary_search.result c.binary_search.ensures.position

pub returns-clause-rising : goal.returns-clause-rising
returns-clause-rising c = belongs c.args.numbers.now c.args.txn c.requires c.binary_search.result c.binary_search.ensures.position
