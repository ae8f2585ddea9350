use Rattle.sqlite.specs.Held.{state}
use Rattle.sql_store.specs.Load.{load_text, load_query}
use Rattle.sql_store.proofs.Bare.{load_mute}
use Rattle.sql_store.proofs.Loads.{loads, selects}
use Rattle.sql_store.proofs.statements.select_inside.Goals as goal

pub returns-clause-selects : goal.returns-clause-selects
returns-clause-selects g c =
    selects load_text load_query load_mute loads (state g.S.Store c.args.tx.now.conn.now) (state g.S.Store c.query_all.new.self.conn.now) c.query_all.result c.query_all.ensures.survives c.query_all.ensures.ok c.query_all.ensures.err
