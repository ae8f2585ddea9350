use Rattle.std.proofs.Common.{vec_capacity}
use Rattle.txn_cells.proofs.Marking.{all_on_ok, marks_made}
use Rattle.txn_cells.proofs.marks.make_room_to_mark.Goals as goal

pub returns-then-count-eq-FEW-clause-marks : goal.returns-then-count-eq-FEW-clause-marks
returns-then-count-eq-FEW-clause-marks g c =
    let e = c.mark_all.ensures in
    let marked = c.mark_all.new.marked in
    all_on_ok c.mark_all.result
    (λ rising each room _. marks_made g.V.Inherit.outstanding c.args.cells.now marked.items (vec_capacity marked) rising each room)
    e.rising e.each e.room
