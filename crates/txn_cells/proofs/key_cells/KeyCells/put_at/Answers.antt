use Rattle.std.proofs.Common.{◌≡◌, ◌<◌, Some, length, sym, vec_capacity, arith, ◌∙◌}
use Rattle.std.specs.Prelude.{slice_get}
use Rattle.std.specs.Map.{keys_of}
use Rattle.txn_cells.specs.Kept.{few}
use Rattle.txn_cells.proofs.Holding.{as_many, holds_at, set_holds}
use Rattle.txn_cells.proofs.Marking.{marks_still, room_to_mark}
use Rattle.txn_cells.proofs.key_cells.KeyCells.put_at.Goals as goal
use Rattle.txn_cells.proofs.key_cells.KeyCells.put_at.Goals.{else-len-gt-FEW-via-then-len-gt-FEW+else-stands_out, else-len-gt-FEW-via-else-len-gt-FEW}

pub put_in-requires-clause-room : goal.put_in-requires-clause-room
put_in-requires-clause-room g c = λ fresh.
    let h = c.self.inside in
    let now = c.put.new.self in
    let at : slice_get (keys_of h.cells) c.args.index ≡ Some c.args.txn = rw (sym c.self.view_is) at c.requires in
    let many : few < length h.cells = omega (arith, c.if-len-gt-FEW.true, c.len.ensures, as_many h.cells now c.put.ensures.keys) in
    room_to_mark g.V.Inherit.outstanding h.cells now h.marked.items (vec_capacity h.marked) (c.self.invariant many) c.args.txn
    (holds_at h.cells c.args.txn c.args.index at) fresh

pub invariant_of-self-else-stands_out : goal.invariant_of-self-else-stands_out
invariant_of-self-else-stands_out g c = λ (more : few < length c.put.new.self).
    let h = c.self.inside in
    let now = c.put.new.self in
    let at : slice_get (keys_of h.cells) c.args.index ≡ Some c.args.txn = rw (sym c.self.view_is) at c.requires in
    let fits = as_many h.cells now c.put.ensures.keys in
    let many : few < length h.cells = omega (arith, more, fits) in
    marks_still g.V.Inherit.outstanding h.cells now h.marked.items (vec_capacity h.marked) (c.self.invariant many) c.args.txn
    (holds_at h.cells c.args.txn c.args.index at) (Some c.args.value) (c.put.ensures.changed c.args.txn at) fits
    (sym c.stands_out.ensures ∙ c.if-stands_out.false)

pub returns-then-stands_out-clause-places : goal.returns-then-stands_out-clause-places
returns-then-stands_out-clause-places g c =
    let cells = c.self.inside.cells in
    let at : slice_get (keys_of cells) c.args.index ≡ Some c.args.txn = rw (sym c.self.view_is) at c.requires in
    rw (sym c.self.view_is) (set_holds cells c.put.new.self c.args.txn (Some c.args.value) (c.put.ensures.changed c.args.txn at) (holds_at cells c.args.txn c.args.index at))

pub returns-else-len-gt-FEW-clause-places : goal.returns-else-len-gt-FEW-clause-places
returns-else-len-gt-FEW-clause-places g c =
    let cells = c.self.inside.cells in
    let at : slice_get (keys_of cells) c.args.index ≡ Some c.args.txn = rw (sym c.self.view_is) at c.requires in
    let is = set_holds cells c.put.new.self c.args.txn (Some c.args.value) (c.put.ensures.changed c.args.txn at) (holds_at cells c.args.txn c.args.index at) in
    elim c.else-len-gt-FEW.branch [
      | else-len-gt-FEW-via-then-len-gt-FEW+else-stands_out w ↦ rw (w.self-is, sym c.self.view_is) is
      | else-len-gt-FEW-via-else-len-gt-FEW w ↦ rw (w.self-is, sym c.self.view_is) is
    ]
