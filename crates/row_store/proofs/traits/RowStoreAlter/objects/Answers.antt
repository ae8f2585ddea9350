use Rattle.std.proofs.Common.{◌≡◌, ◌≢◌, ◌<◌, length, rules, append_assoc, get_or, arith}
use Rattle.std.proofs.lemmas.List.{length-map}
use Rattle.sqlite_trees.specs.declared.store.Shape.TheVariants.{Absent}
use Rattle.sqlite_trees.specs.Listing.{no_heading}
use Rattle.sqlite_trees.proofs.StoreLemmas.{objects_step, listed_unless_absent}
use Rattle.row_store.specs.Heading.{heading}
use Rattle.row_store.specs.RowView.{now}
use Rattle.row_store.proofs.Kept.{counted}
use Rattle.row_store.proofs.Lists.{read_at}
use Rattle.row_store.proofs.traits.RowStoreAlter.objects.Goals.{then-ne+in_ok-listing+in_ok-push, else-ne}
use Rattle.row_store.proofs.traits.RowStoreAlter.objects.Goals as goal

pub listing-requires : goal.listing-requires
listing-requires c = omega (arith, (counted c.args.self.now).0, c.args.self.now.headings.ok.0)

pub loop-at-preserved : goal.loop-at-preserved
loop-at-preserved c =
    let s = c.args.self.now in
    let x = c.index-head.result.now in
    let low : c.loop-at.at < length s.headings.items = omega (arith, s.headings.ok.0) in
    let read : get_or (now s).headings c.loop-at.at no_heading ≡ heading x = read_at heading s.headings.items c.loop-at.at x no_heading low c.index-head.ensures in
    let within : c.loop-at.at < length (now s).headings = omega (arith, low, length-map s.headings.items heading) in
    let was = rw (objects_step (now s).headings c.loop-at.at c.loop-at.at (heading x) within read) at c.loop-at.invariant in
    elim c.if-ne.branch [
      | then-ne+in_ok-listing+in_ok-push w ↦
          let present : x.shape ≢ Absent = search rules in
          rw (w.rows-is, w.in_ok-push.ensures.items, w.in_ok-listing.ensures, append_assoc) (rw (listed_unless_absent _ _ _ present) at was)
      | else-ne w ↦ let absent : x.shape ≡ Absent = search rules in rw w.rows-is (rw absent at was)
    ]
