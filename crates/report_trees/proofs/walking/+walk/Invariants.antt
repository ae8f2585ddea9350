use Rattle.std.proofs.Common.{◌<◌, ◌^◌, ℕ, List, length}
use Rattle.std.specs.Prelude.{IfSome}
use Rattle.report_trees.specs.inner.Linked.{AreTold, IsLinked}
use Rattle.report_trees.specs.declared.telling.Told.{Told}
use Rattle.report_trees.proofs.Along.{IsUnderWay, left}
use Rattle.report_trees.proofs.walking.+walk.Given as goal

abbrev pub decreases-walk : goal.decreases-walk
decreases-walk l = l.more

abbrev pub invariant-children : goal.invariant-children
invariant-children l = record {
  fits : IfSome l.child (λ j. j < 2 ^ 64);
  way : (places : List ℕ) (tells : ℕ → Told) → IsLinked places l.links → AreTold tells (length places) l.told
      → IsUnderWay places tells l.more l.level l.place l.above l.initial.out.items l.child l.out.items;
}

abbrev pub decreases-children : goal.decreases-children
decreases-children l = left l.child
