use Rattle.std.proofs.Common.{◌∙◌, None, ap, sym}
use Rattle.sqlite.specs.Held.{state}
use Rattle.sql_store.specs.Ids.{rises}
use Rattle.sql_store.proofs.Apart.{apart_by}
use Rattle.sql_store.proofs.Loaded.{answered_ids}
use Rattle.sql_store.proofs.inside.is_new_apart.Goals as goal

pub returns-clause-apart : goal.returns-clause-apart
returns-clause-apart g c clean has apart =
    let rows = c.in_ok-ids.ids.items in
    apart_by _ rows (answered_ids (state g.S.Store c.args.tx.now.conn.now).now.trees rows (c.in_ok-ids.ensures.selects.rows clean has)) (ap (rises None) (sym c.as_slice.ensures.value) ∙ sym c.are_apart.ensures ∙ apart)
