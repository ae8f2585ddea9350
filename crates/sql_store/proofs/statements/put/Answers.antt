use Rattle.std.proofs.Common.{◌≡◌, Err, rules}
use Rattle.sql_store.specs.Asked.{params_of}
use Rattle.sqlite.specs.Held.{state}
use Rattle.sql_store.proofs.Texts.{upsert_text}
use Rattle.sql_store.proofs.Upserts.{enters}
use Rattle.sql_store.proofs.Answering.{ran, failed}
use Rattle.sql_store.proofs.statements.put.Goals as goal

pub returns-clause-made : goal.returns-clause-made
returns-clause-made g c clean inside =
    enters (state g.S.Store c.args.tx.now.conn.now) (state g.S.Store c.execute.new.self.conn.now) c.args.row.now.key c.args.row.now.value c.args.row.now.commit c.in_ok-execute.field-0 (rw c.of_row.ensures at (c.in_ok-execute.ensures.runs clean inside))

pub returns-clause-answers : goal.returns-clause-answers
returns-clause-answers g c = ran g.S.Store upsert_text (params_of c.args.row.now) c.args.tx.now.conn.now c.execute.new.self.conn.now c.in_ok-execute.field-0 (rw c.of_row.ensures at c.in_ok-execute.ensures.runs) c.execute.ensures.survives

pub returns-in_err-execute-clause-answers : goal.returns-in_err-execute-clause-answers
returns-in_err-execute-clause-answers g c =
    let e = c.in_err-execute.field-0.0 in
    let same : c.from_residual.result ≡ Err e = search rules in
    rw same (failed g.S.Store upsert_text (params_of c.args.row.now) c.args.tx.now.conn.now c.execute.new.self.conn.now e (rw c.of_row.ensures at c.in_err-execute.ensures.runs) c.execute.ensures.survives)
