use Rattle.std.proofs.Common.{not, ap, sym}
use Rattle.txn_cells.proofs.Holding.{holds_at, still_or}
use Rattle.txn_cells.proofs.key_cells.KeyCells.add.Goals as goal

pub returns-in-Some-clause-made : goal.returns-in-Some-clause-made
returns-in-Some-clause-made g c =
    ap not (sym (holds_at c.args.self.now c.args.txn c.in-Some.index c.in-Some.ensures.at))

pub returns-in-Some-clause-ok : goal.returns-in-Some-clause-ok
returns-in-Some-clause-ok g c =
    let held = c.args.self.now in
    rw c.self.view_is
    (λ u. sym (still_or held c.args.txn u (holds_at held c.args.txn c.in-Some.index c.in-Some.ensures.at)))
