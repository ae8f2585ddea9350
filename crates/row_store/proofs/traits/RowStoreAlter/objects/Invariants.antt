use Rattle.std.proofs.Common.{◌≡◌, ◌++◌, map, take, drop}
use Rattle.sqlite_trees.specs.Listing.{objects_from}
use Rattle.row_store.specs.RowView.{now}
use Rattle.row_store.proofs.traits.RowStoreAlter.objects.Given as goal

abbrev pub invariant-loop-at : goal.invariant-loop-at
invariant-loop-at l = l.rows.items ++ map (take 5) (objects_from l.at (drop l.at (now l.self).headings)) ≡ map (take 5) (objects_from 0 (now l.self).headings)
