use Rattle.std.proofs.Common.{ap, ◌∙◌}
use Rattle.manager_core.proofs.WaitTables.{access_of, kept_access_of}
use Rattle.manager_core.proofs.tables.Tables.waiting_access_at.Goals as goal

pub returns-in_err-wait : goal.returns-in_err-wait
returns-in_err-wait c =
    rw (← c.self.view_is)
    (λ t number rows h are.
    c.from_residual.ensures ∙ ap access_of c.in_err-wait.ensures
    ∙ kept_access_of h c.self.inside.tree c.self.inside.waits are.waiting t c.args.txn number)

pub returns : goal.returns
returns c =
    rw (← c.self.view_is)
    (λ t number rows h are.
    ap access_of c.in_ok-wait.ensures
    ∙ kept_access_of h c.self.inside.tree c.self.inside.waits are.waiting t c.args.txn number)
