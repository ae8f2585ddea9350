use Rattle.std.proofs.Common.{[], ◌≡◌, Err, rules}
use Rattle.sqlite.specs.Held.{state}
use Rattle.sql_store.proofs.Texts.{empty_text}
use Rattle.sql_store.proofs.Steps.{on_by}
use Rattle.sql_store.proofs.Deletes.{empties}
use Rattle.sql_store.proofs.Answering.{ran, failed}
use Rattle.sql_store.proofs.statements.empty.Goals as goal

pub returns-clause-on : goal.returns-clause-on
returns-clause-on g c = on_by empty_text [] (state g.S.Store c.args.tx.now.conn.now) (state g.S.Store c.execute.new.self.conn.now) c.in_ok-execute.field-0 c.in_ok-execute.ensures.runs

pub returns-clause-schema : goal.returns-clause-schema
returns-clause-schema g c clean inside has = (empties (state g.S.Store c.args.tx.now.conn.now) (state g.S.Store c.execute.new.self.conn.now) c.in_ok-execute.field-0 has (c.in_ok-execute.ensures.runs clean inside).0).schema

pub returns-clause-others : goal.returns-clause-others
returns-clause-others g c clean inside has = (empties (state g.S.Store c.args.tx.now.conn.now) (state g.S.Store c.execute.new.self.conn.now) c.in_ok-execute.field-0 has (c.in_ok-execute.ensures.runs clean inside).0).others

pub returns-clause-gone : goal.returns-clause-gone
returns-clause-gone g c clean inside has = (empties (state g.S.Store c.args.tx.now.conn.now) (state g.S.Store c.execute.new.self.conn.now) c.in_ok-execute.field-0 has (c.in_ok-execute.ensures.runs clean inside).0).rows

pub returns-clause-answers : goal.returns-clause-answers
returns-clause-answers g c = ran g.S.Store empty_text [] c.args.tx.now.conn.now c.execute.new.self.conn.now c.in_ok-execute.field-0 c.in_ok-execute.ensures.runs c.execute.ensures.survives

pub returns-in_err-execute-clause-answers : goal.returns-in_err-execute-clause-answers
returns-in_err-execute-clause-answers g c =
    let e = c.in_err-execute.field-0.0 in
    let same : c.from_residual.result ≡ Err e = search rules in
    rw same (failed g.S.Store empty_text [] c.args.tx.now.conn.now c.execute.new.self.conn.now e c.in_err-execute.ensures.runs c.execute.ensures.survives)
