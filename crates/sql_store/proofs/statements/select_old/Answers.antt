use Rattle.sqlite.specs.Held.{state}
use Rattle.sql_store.specs.Load.{old_text, old_query}
use Rattle.sql_store.proofs.Bare.{old_mute}
use Rattle.sql_store.proofs.Loads.{loads_old, selects}
use Rattle.sql_store.proofs.statements.select_old.Goals as goal

pub returns-clause-selects : goal.returns-clause-selects
returns-clause-selects g c =
    selects old_text old_query old_mute loads_old (state g.S.Store c.args.tx.now.conn.now) (state g.S.Store c.query_all.new.self.conn.now) c.query_all.result c.query_all.ensures.survives c.query_all.ensures.ok c.query_all.ensures.err
