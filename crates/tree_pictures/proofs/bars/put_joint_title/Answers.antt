use Rattle.std.proofs.Common.{◌++◌, ℕ, List}
use Rattle.std.specs.Prelude.{codes, decimal}
use Rattle.tree_pictures.specs.Bars.{entries_title}
use Rattle.tree_pictures.proofs.Parts.{on_done, then_put}
use Rattle.tree_pictures.proofs.bars.put_joint_title.Goals as goal

pub returns : goal.returns
returns c =
    let x : List ℕ = c.args.out.now.items in
    let sc = c.args.scale.now in
    let w0 = decimal c.args.count in
    let p0 = c.in_ok-put_number.ensures in
    let r1 = codes " transactions, drawn together; undone " ++ decimal c.args.undone in
    let p1 = then_put x w0 r1 p0 (c.in_ok-put_counted.ensures) in
    let w1 = w0 ++ r1 in
    let r2 = entries_title sc c.args.from c.args.to in
    let p2 = then_put x w1 r2 p1 (c.in_ok-put_entries.ensures) in
    let w2 = w1 ++ r2 in
    on_done c.put_bytes.result c.put_bytes.ensures (λ last. then_put x w2 (codes "</title></rect>\n") p2 last)
