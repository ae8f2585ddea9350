use Rattle.std.proofs.Common.{◌++◌, ℕ, List}
use Rattle.std.specs.Prelude.{codes, decimal}
use Rattle.tree_pictures.specs.Elements.{point}
use Rattle.tree_pictures.specs.Scale.{line_of, plus, x_of, y_of}
use Rattle.tree_pictures.proofs.Parts.{on_done, then_put}
use Rattle.tree_pictures.proofs.victims.put_cross.Goals as goal

pub returns : goal.returns
returns c =
    let x : List ℕ = c.args.out.now.items in
    let sc = c.args.scale.now in
    let n = c.args.entry in
    let w0 = codes "<path class=\"cross\" d=\"M-4-4L4 4M-4 4L4-4\" transform=\"translate(" in
    let p0 = c.in_ok-put_bytes.ensures in
    let r1 = point (x_of sc n) (plus (y_of c.args.row) 85) in
    let p1 = then_put x w0 r1 p0 (rw (c.x.ensures, c.plus.ensures, c.y.ensures) at c.in_ok-put_point.ensures) in
    let w1 = w0 ++ r1 in
    let r2 = codes ")\"><title>undone to break a cycle of waits" in
    let p2 = then_put x w1 r2 p1 (c.in_ok-put_bytes-2.ensures) in
    let w2 = w1 ++ r2 in
    let r3 = codes "; line " ++ decimal (line_of sc n) in
    let p3 = then_put x w2 r3 p2 (rw c.line.ensures at c.in_ok-put_counted.ensures) in
    let w3 = w2 ++ r3 in
    let r4 = codes "; waiting then: " ++ decimal c.args.waiting in
    let p4 = then_put x w3 r4 p3 (c.in_ok-put_counted-2.ensures) in
    let w4 = w3 ++ r4 in
    on_done c.put_bytes-3.result c.put_bytes-3.ensures (λ last. then_put x w4 (codes "</title></path>\n") p4 last)
