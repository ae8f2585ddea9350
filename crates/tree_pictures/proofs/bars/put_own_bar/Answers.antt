use Rattle.std.proofs.Common.{◌++◌, ℕ, List}
use Rattle.std.specs.Prelude.{codes}
use Rattle.tree_pictures.specs.Bars.{bar, class_of, own_label, own_title, starts_at, stops_at}
use Rattle.tree_pictures.proofs.Parts.{on_done, then_put}
use Rattle.tree_pictures.proofs.bars.put_own_bar.Goals as goal

pub returns : goal.returns
returns c =
    let x : List ℕ = c.args.out.now.items in
    let sc = c.args.scale.now in
    let s = c.args.shown.now in
    let ts = c.args.names.now.keys in
    let w0 = own_label ts c.args.row s in
    let p0 = c.in_ok-put_own_label.ensures in
    let r1 = codes "</text>\n" in
    let p1 = then_put x w0 r1 p0 (c.in_ok-put_bytes.ensures) in
    let w1 = w0 ++ r1 in
    let r2 = bar sc (class_of s.outcome) c.args.row (starts_at s) (stops_at sc.entries s) in
    let p2 = then_put x w1 r2 p1 (rw (c.class_of.ensures, c.starts_at-from.ensures, c.stops_at-to.ensures) at c.in_ok-put_bar.ensures) in
    let w2 = w1 ++ r2 in
    on_done c.put_own_title.result c.put_own_title.ensures (λ last. then_put x w2 (own_title ts sc s) p2 last)
