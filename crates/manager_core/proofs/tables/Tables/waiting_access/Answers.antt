use Rattle.manager_core.proofs.tables.Tables.waiting_access.Goals as goal

pub returns : goal.returns
returns c rows h are = c.waiting_access_at.ensures c.args.name.now (rw (← c.self.view_is) c.in_ok-txn.ensures.number) rows h are
