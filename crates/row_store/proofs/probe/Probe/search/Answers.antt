use Rattle.std.proofs.Common.{arith, sym, ◌<◌, length, []}
use Rattle.std.proofs.lemmas.List.{get_or_read}
use Rattle.row_store.specs.inner.Passes.{passes}
use Rattle.sqlite_trees.proofs.MemoryLemmas.{passes_before, fails_after}
use Rattle.row_store.proofs.probe.Probe.search.Goals as goal

pub at-requires : goal.at-requires
at-requires c =
    let near = c.loop-low.invariant.4 c.loop-low-test.true in
    omega (arith, near.1, c.loop-low.invariant.1)

pub loop-low-preserved-then-passes_by : goal.loop-low-preserved-then-passes_by
loop-low-preserved-then-passes_by c =
    let rows = c.args.rows.now.items in
    let next = c.loop-low.next in
    let near = c.loop-low.invariant.4 c.loop-low-test.true in
    let within : next < length rows = omega (arith, near.1, c.loop-low.invariant.1) in
    let test = rw (get_or_read rows next _ within c.at.ensures []) at (sym c.if-passes_by.ensures) in (
      omega (arith, near.1),
      omega arith,
      λ k p. passes_before (passes c.args.self.now) rows next c.requires.cut within test k (omega arith),
      c.loop-low.invariant.3,
      λ h. (omega arith, omega arith),
    )

pub loop-low-preserved : goal.loop-low-preserved
loop-low-preserved c =
    let rows = c.args.rows.now.items in
    let next = c.loop-low.next in
    let near = c.loop-low.invariant.4 c.loop-low-test.true in
    let within : next < length rows = omega (arith, near.1, c.loop-low.invariant.1) in
    let test = rw (get_or_read rows next _ within c.at.ensures []) at (sym c.if-passes_by.ensures) in (
      omega (arith, near.0),
      omega (arith, near.1, c.loop-low.invariant.1),
      c.loop-low.invariant.2,
      fails_after (passes c.args.self.now) rows next c.requires.cut test,
      λ h. (omega arith, omega arith),
    )
