use Rattle.sql_store.proofs.Steps.{on_ok_then}
use Rattle.sql_store.proofs.Ways.{makes_put}
use Rattle.sql_store.proofs.puts.put_either.Goals as goal

pub returns-then-is_likely-clause-made : goal.returns-then-is_likely-clause-made
returns-then-is_likely-clause-made g c clean inside =
    let row = c.args.row.now in
    on_ok_then c.put_known.result (makes_put g.S.Store row.key row.value row.commit c.args.tx.now.conn.now c.put_known.new.tx.conn.now inside) (c.put_known.ensures.answers.asked clean inside)

pub returns-else-is_likely-clause-made : goal.returns-else-is_likely-clause-made
returns-else-is_likely-clause-made g c clean inside =
    let row = c.args.row.now in
    on_ok_then c.put_new.result (makes_put g.S.Store row.key row.value row.commit c.args.tx.now.conn.now c.put_new.new.tx.conn.now inside) (c.put_new.ensures.answers.asked clean inside)

pub returns-then-is_likely-clause-first : goal.returns-then-is_likely-clause-first
returns-then-is_likely-clause-first g c = rw c.if-is_likely.true c.put_known.ensures.first

pub returns-else-is_likely-clause-first : goal.returns-else-is_likely-clause-first
returns-else-is_likely-clause-first g c = rw c.if-is_likely.false c.put_new.ensures.first
