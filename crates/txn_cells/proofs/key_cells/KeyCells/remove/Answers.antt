use Rattle.std.proofs.Common.{◌<◌, length, vec_capacity, arith}
use Rattle.txn_cells.specs.Kept.{few}
use Rattle.txn_cells.proofs.Marking.{marks_left}
use Rattle.txn_cells.proofs.key_cells.KeyCells.remove.Goals as goal

pub invariant_of-self : goal.invariant_of-self
invariant_of-self g c =
    let h = c.self.inside in
    let e = c.remove-had.ensures in
    rw (c.take_from.ensures.left, c.take_from.ensures.capacity)
    (λ (more : few < length c.remove-had.new.self).
    let many : few < length h.cells = omega (arith, more, e.fewer) in
    marks_left g.V.Inherit.outstanding h.cells c.remove-had.new.self h.marked.items (vec_capacity h.marked) (c.self.invariant many) c.args.txn e.changed e.fewer)
