use Rattle.std.proofs.Common.{◌++◌, ◌-◌, ℕ, List}
use Rattle.std.specs.Prelude.{codes, decimal}
use Rattle.tree_pictures.specs.Elements.{opened_line, opened_text}
use Rattle.tree_pictures.specs.Scale.{bottom_of, line_of, x_of}
use Rattle.tree_pictures.specs.declared.scale.TheConstants.{TOP}
use Rattle.tree_pictures.proofs.Parts.{on_done, then_put}
use Rattle.tree_pictures.proofs.frame.put_time.Goals as goal

pub returns : goal.returns
returns c =
    let x : List ℕ = c.args.out.now.items in
    let sc = c.args.scale.now in
    let n = c.args.entry in
    let w0 = opened_line (codes "grid") (x_of sc n) (TOP - 60) (bottom_of sc) in
    let p0 = rw (c.x-x.ensures, c.bottom.ensures) at c.in_ok-put_upright.ensures in
    let r1 = opened_text (codes "time") (x_of sc n) (TOP - 100) in
    let p1 = then_put x w0 r1 p0 (rw c.x-x.ensures at c.in_ok-put_text_at.ensures) in
    let w1 = w0 ++ r1 in
    let r2 = decimal (line_of sc n) in
    let p2 = then_put x w1 r2 p1 (rw c.line.ensures at c.in_ok-put_number.ensures) in
    let w2 = w1 ++ r2 in
    on_done c.put_bytes.result c.put_bytes.ensures (λ last. then_put x w2 (codes "</text>\n") p2 last)
