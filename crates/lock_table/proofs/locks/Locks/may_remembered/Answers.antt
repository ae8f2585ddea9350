use Rattle.std.proofs.Common.{not, sym, ap}
use Rattle.lock_table.specs.Locked.{modes_in}
use Rattle.lock_table.proofs.Blockers.{modes_bare, not_kept_out}
use Rattle.lock_table.proofs.locks.Locks.may_remembered.Goals as goal

pub returns-in-None : goal.returns-in-None
returns-in-None c =
    let t = c.self.inside.table in
    let k = c.args.key.now in
    let bare = rw c.in-None.is at c.at_remembered.ensures.none in
    rw (sym c.self.view_is) (ap not (sym (not_kept_out c.args.tree.now (λ u. modes_in t u k) c.args.txn c.args.kind (modes_bare t k bare))))
