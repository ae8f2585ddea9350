use Rattle.std.proofs.Common.{◌++◌, ℕ, List}
use Rattle.std.specs.Prelude.{codes}
use Rattle.tree_pictures.specs.Elements.{tenths}
use Rattle.tree_pictures.specs.Scale.{bottom_of, plus}
use Rattle.tree_pictures.specs.declared.frame.TheConstants.{FOOT}
use Rattle.tree_pictures.specs.declared.scale.TheConstants.{WIDTH}
use Rattle.tree_pictures.proofs.Parts.{on_done, then_put}
use Rattle.tree_pictures.proofs.frame.put_opening.Goals as goal

pub returns : goal.returns
returns c =
    let x : List ℕ = c.args.out.now.items in
    let sc = c.args.scale.now in
    let w0 = codes "<svg xmlns=\"http://www.w3.org/2000/svg\" viewBox=\"0 0 " in
    let p0 = c.in_ok-put_bytes.ensures in
    let r1 = tenths WIDTH in
    let p1 = then_put x w0 r1 p0 (c.in_ok-put_tenths.ensures) in
    let w1 = w0 ++ r1 in
    let r2 = codes " " in
    let p2 = then_put x w1 r2 p1 (c.in_ok-put_bytes-2.ensures) in
    let w2 = w1 ++ r2 in
    let r3 = tenths (plus (bottom_of sc) FOOT) in
    let p3 = then_put x w2 r3 p2 (rw (c.plus.ensures, c.bottom.ensures) at c.in_ok-put_tenths-2.ensures) in
    let w3 = w2 ++ r3 in
    on_done c.put_bytes-3.result c.put_bytes-3.ensures (λ last. then_put x w3 (codes "\">\n") p3 last)
