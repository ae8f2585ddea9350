use Rattle.std.proofs.Common.{◌++◌, ◌-◌, ℕ, List, length}
use Rattle.tree_pictures.specs.Bars.{bar, earliest, joint_class, joint_label, joint_title, latest, starts_at, stops_at, undone_in}
use Rattle.tree_pictures.proofs.Parts.{on_done, then_put}
use Rattle.tree_pictures.proofs.bars.put_joint_bar.Goals as goal

pub returns : goal.returns
returns c =
    let x : List ℕ = c.args.out.now.items in
    let sc = c.args.scale.now in
    let s = c.args.first.now in
    let ss = c.args.shown.now in
    let ts = c.args.names.now.keys in
    let from = earliest (starts_at s) ss in
    let to = latest sc.entries (stops_at sc.entries s) ss in
    let w0 = joint_label ts c.args.row s (length ss - 1) in
    let p0 = rw (c.saturating_sub-more.ensures) at c.in_ok-put_joint_label.ensures in
    let r1 = bar sc (joint_class (undone_in ss)) c.args.row from to in
    let p1 = then_put x w0 r1 p0 (rw (c.joint_class.ensures, c.undone_in-undone.ensures.count, c.earliest-from.ensures, c.starts_at.ensures, c.latest-to.ensures, c.stops_at.ensures) at c.in_ok-put_bar.ensures) in
    let w1 = w0 ++ r1 in
    on_done c.put_joint_title.result (rw (c.undone_in-undone.ensures.count, c.earliest-from.ensures, c.starts_at.ensures, c.latest-to.ensures, c.stops_at.ensures) at c.put_joint_title.ensures) (λ last. then_put x w1 (joint_title sc (length ss) (undone_in ss) from to) p1 last)
