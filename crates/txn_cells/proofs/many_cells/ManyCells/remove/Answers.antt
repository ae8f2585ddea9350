use Rattle.std.proofs.Common.{◌≡◌, Some, ap, is_some, ◌∙◌}
use Rattle.std.specs.Prelude.{slice_get}
use Rattle.txn_cells.proofs.Finding.{holders_left, there}
use Rattle.txn_cells.proofs.Puts.{some_from}
use Rattle.txn_cells.proofs.many_cells.ManyCells.remove.Goals as goal

pub unwrap-requires : goal.unwrap-requires
unwrap-requires g c =
    let h = c.self.inside in
    let at : slice_get h.numbers c.in-Ok.place ≡ Some c.args.txn = rw c.as_slice.ensures at c.in-Ok.ensures.there in
    some_from c.swap_remove.result (ap is_some c.swap_remove.ensures.value ∙ there h.numbers h.contents.entries h.contents.entries c.self.invariant c.args.txn c.in-Ok.place at)

pub invariant_of-self : goal.invariant_of-self
invariant_of-self g c =
    let h = c.self.inside in
    let at : slice_get h.numbers c.in-Ok.place ≡ Some c.args.txn = rw c.as_slice.ensures at c.in-Ok.ensures.there in
    let fewer = rw c.unwrap.ensures at c.swap_remove.ensures.len in
    rw c.remove.ensures
    (holders_left h.numbers h.contents.entries c.swap_remove.new.self.entries c.self.invariant c.args.txn c.in-Ok.place at c.swap_remove.ensures.updates.0 fewer)
