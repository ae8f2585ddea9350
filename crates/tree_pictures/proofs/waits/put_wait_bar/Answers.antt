use Rattle.std.proofs.Common.{◌++◌, ℕ, List}
use Rattle.std.specs.Prelude.{codes}
use Rattle.tree_pictures.specs.Bars.{entries_title}
use Rattle.tree_pictures.specs.Waits.{wait_rect}
use Rattle.tree_pictures.proofs.Parts.{on_done, then_put}
use Rattle.tree_pictures.proofs.waits.put_wait_bar.Goals as goal

pub returns : goal.returns
returns c =
    let x : List ℕ = c.args.out.now.items in
    let sc = c.args.scale.now in
    let from = c.args.from in
    let to = c.args.to in
    let w0 = wait_rect sc c.args.row from to in
    let p0 = c.in_ok-put_wait_rect.ensures in
    let r1 = entries_title sc from to in
    let p1 = then_put x w0 r1 p0 (c.in_ok-put_entries.ensures) in
    let w1 = w0 ++ r1 in
    on_done c.put_bytes.result c.put_bytes.ensures (λ last. then_put x w1 (codes "</title></rect>\n") p1 last)
