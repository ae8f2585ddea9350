use Rattle.std.proofs.Common.{◌++◌, ℕ, List, length}
use Rattle.tree_pictures.specs.Bars.{all_bars}
use Rattle.tree_pictures.specs.Frame.{head, times}
use Rattle.tree_pictures.specs.Picture.{below_bars, marks_of}
use Rattle.tree_pictures.proofs.Parts.{on_done, then_put}
use Rattle.tree_pictures.proofs.picture.put_parts.Goals as goal

pub returns : goal.returns
returns c =
    let x : List ℕ = c.args.out.now.items in
    let sc = c.args.scale.now in
    let ts = c.args.names.now.keys in
    let ms = c.args.marks.now in
    let ss = c.args.shown.now in
    let ws = c.args.waits.now in
    let w0 = head sc (length ss) in
    let p0 = c.in_ok-put_head.ensures in
    let r1 = times sc in
    let p1 = then_put x w0 r1 p0 (c.in_ok-put_times.ensures) in
    let w1 = w0 ++ r1 in
    let r2 = all_bars ts sc ss in
    let p2 = then_put x w1 r2 p1 (c.in_ok-put_bars.ensures) in
    let w2 = w1 ++ r2 in
    let r3 = marks_of sc ms ss ws in
    let p3 = then_put x w2 r3 p2 (c.in_ok-put_marks_if.ensures) in
    let w3 = w2 ++ r3 in
    on_done c.put_below.result c.put_below.ensures (λ last. then_put x w3 (below_bars sc ss ms) p3 last)
