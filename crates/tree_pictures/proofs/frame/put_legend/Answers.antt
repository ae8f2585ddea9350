use Rattle.std.proofs.Common.{◌++◌, ℕ, List}
use Rattle.std.specs.Prelude.{codes}
use Rattle.tree_pictures.specs.Elements.{tenths}
use Rattle.tree_pictures.specs.Scale.{bottom_of, plus}
use Rattle.tree_pictures.specs.declared.frame.TheConstants.{LEGEND}
use Rattle.tree_pictures.proofs.Parts.{on_done, then_put}
use Rattle.tree_pictures.proofs.frame.put_legend.Goals as goal

pub returns : goal.returns
returns c =
    let x : List ℕ = c.args.out.now.items in
    let sc = c.args.scale.now in
    let w0 = codes "<g transform=\"translate(0 " in
    let p0 = c.in_ok-put_bytes.ensures in
    let r1 = tenths (plus (bottom_of sc) 150) in
    let p1 = then_put x w0 r1 p0 (rw (c.plus.ensures, c.bottom.ensures) at c.in_ok-put_tenths.ensures) in
    let w1 = w0 ++ r1 in
    let r2 = codes ")\">\n" in
    let p2 = then_put x w1 r2 p1 (c.in_ok-put_bytes-2.ensures) in
    let w2 = w1 ++ r2 in
    let r3 = LEGEND.now in
    let p3 = then_put x w2 r3 p2 (c.in_ok-put_bytes-3.ensures) in
    let w3 = w2 ++ r3 in
    on_done c.put_bytes-4.result c.put_bytes-4.ensures (λ last. then_put x w3 (codes "</g>\n") p3 last)
