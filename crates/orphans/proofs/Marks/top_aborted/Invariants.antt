use Rattle.orphans.specs.Marked.{is_marked}
use Rattle.orphans.proofs.Tops.{NoneBelow}
use Rattle.orphans.proofs.Marks.top_aborted.Given as goal

abbrev pub invariant-loop-depth : goal.invariant-loop-depth
invariant-loop-depth l = NoneBelow (is_marked l.self) l.name l.depth
