use Rattle.std.proofs.Common.{◌≡◌, [], map, replicate}
use Rattle.sqlite_trees.specs.Listing.{no_heading}
use Rattle.row_store.specs.Heading.{heading}
use Rattle.row_store.proofs.store.RowStore.new.Given as goal

abbrev pub invariant-loop : goal.invariant-loop
invariant-loop l = (map heading l.headings.items ≡ replicate l.counter no_heading) × (map (λ v. v.items) l.rows.items ≡ replicate l.counter [])
