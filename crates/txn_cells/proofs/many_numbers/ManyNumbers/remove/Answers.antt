use Rattle.std.proofs.Common.{◌<◌, drop, length, length-drop, refl, sym, arith, ◌∙◌}
use Rattle.txn_cells.proofs.Fronts.{remove_first, remove_past}
use Rattle.txn_cells.proofs.many_numbers.ManyNumbers.remove.Goals as goal

pub returns-then-place-gt0 : goal.returns-then-place-gt0
returns-then-place-gt0 c =
    let n = c.self.inside in
    let asked : c.args.place < length (drop n.front n.items.items) = rw (sym c.self.view_is) at c.requires in
    let long = length-drop n.front n.items.items in
    rw (sym c.self.view_is, c.remove.ensures.items) (remove_past n.front n.items.items c.args.place _ refl (omega (arith, asked, long, c.self.invariant)))

pub returns-then-self-len : goal.returns-then-self-len
returns-then-self-len c =
    rw (sym c.self.view_is) (c.let_go.ensures ∙ remove_first c.self.inside.front c.self.inside.items.items c.args.place c.if-place-gt0.false)

pub returns-else-self-len : goal.returns-else-self-len
returns-else-self-len c =
    rw (sym c.self.view_is) (remove_first c.self.inside.front c.self.inside.items.items c.args.place c.if-place-gt0.false)
