use Rattle.std.proofs.Common.{not, sym, ap, ◌∙◌}
use Rattle.lock_table.specs.Locked.{modes_of}
use Rattle.lock_table.proofs.Blockers.{some_keeps}
use Rattle.lock_table.proofs.key_locks.lets_in.Goals as goal

pub returns-then-any_keeps_out : goal.returns-then-any_keeps_out
returns-then-any_keeps_out c =
    ap not (sym (some_keeps c.args.tree.now (modes_of c.args.locks.now) c.args.txn c.args.kind _ (sym c.any_keeps_out.ensures ∙ c.if-any_keeps_out.true)))
